use Rattle.ns_plan.proofs.Bounded.{kept_is_bounded}
use Rattle.ns_plan.proofs.laws.kept_is_bounded.Goals as goal

pub returns : goal.returns
returns c = kept_is_bounded

use Rattle.ns_applier.proofs.Judged.{apply_is_judged}
use Rattle.ns_applier.proofs.laws.apply_is_judged.Goals as goal

pub returns : goal.returns
returns c = apply_is_judged

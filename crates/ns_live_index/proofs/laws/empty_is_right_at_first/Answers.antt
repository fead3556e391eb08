use Rattle.ns_live_index.proofs.Administered.{empty_right}
use Rattle.ns_live_index.proofs.laws.empty_is_right_at_first.Goals as goal

pub returns : goal.returns
returns c = empty_right

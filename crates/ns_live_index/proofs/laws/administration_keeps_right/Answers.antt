use Rattle.ns_live_index.proofs.Administered.{administration_right}
use Rattle.ns_live_index.proofs.laws.administration_keeps_right.Goals as goal

pub returns : goal.returns
returns c = administration_right

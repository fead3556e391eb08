use Rattle.ns_applier.proofs.Ending.{ended_were_live}
use Rattle.ns_applier.proofs.laws.ended_were_live.Goals as goal

pub returns : goal.returns
returns c = ended_were_live

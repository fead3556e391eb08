use Rattle.ns_applier.proofs.Ending.{no_victim_is_stopped}
use Rattle.ns_applier.proofs.laws.no_victim_is_stopped.Goals as goal

pub returns : goal.returns
returns c = no_victim_is_stopped

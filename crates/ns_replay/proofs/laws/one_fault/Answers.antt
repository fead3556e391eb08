use Rattle.ns_replay.proofs.FaultLemmas.{one_fault}
use Rattle.ns_replay.proofs.laws.one_fault.Goals as goal

pub returns : goal.returns
returns c = one_fault

use Rattle.ns_replay.proofs.FaultLemmas.{replayed_has_no_fault}
use Rattle.ns_replay.proofs.laws.replayed_has_no_fault.Goals as goal

pub returns : goal.returns
returns c = replayed_has_no_fault

use Rattle.ns_replay.proofs.FaultLemmas.{one_replay}
use Rattle.ns_replay.proofs.laws.one_replay.Goals as goal

pub returns : goal.returns
returns c = one_replay

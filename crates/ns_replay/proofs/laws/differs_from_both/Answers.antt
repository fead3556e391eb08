use Rattle.ns_replay.proofs.FaultLemmas.{differs_from_both}
use Rattle.ns_replay.proofs.laws.differs_from_both.Goals as goal

pub returns : goal.returns
returns c = differs_from_both

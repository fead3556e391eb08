use Rattle.ns_replay.proofs.FaultLemmas.{kept_never_differs}
use Rattle.ns_replay.proofs.laws.kept_never_differs.Goals as goal

pub returns : goal.returns
returns c = kept_never_differs

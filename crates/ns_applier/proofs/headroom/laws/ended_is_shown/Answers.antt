use Rattle.ns_applier.proofs.Shown.{ended_shown}
use Rattle.ns_applier.proofs.headroom.laws.ended_is_shown.Goals as goal

pub returns : goal.returns
returns c = ended_shown

use Rattle.ns_laws.proofs.Work.Turns.{idle_is_shown}
use Rattle.ns_laws.proofs.turns.idle_is_shown.Goals as goal

pub returns : goal.returns
returns c = idle_is_shown

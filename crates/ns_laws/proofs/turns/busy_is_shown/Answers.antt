use Rattle.ns_laws.proofs.Work.Turns.{busy_is_shown}
use Rattle.ns_laws.proofs.turns.busy_is_shown.Goals as goal

pub returns : goal.returns
returns c = busy_is_shown

use Rattle.ns_laws.proofs.Work.Turns.{next_plan_is_shown}
use Rattle.ns_laws.proofs.turns.next_plan_is_shown.Goals as goal

pub returns : goal.returns
returns c = next_plan_is_shown

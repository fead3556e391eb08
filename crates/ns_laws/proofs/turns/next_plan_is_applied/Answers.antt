use Rattle.ns_laws.proofs.Work.Turns.{next_plan_is_applied}
use Rattle.ns_laws.proofs.turns.next_plan_is_applied.Goals as goal

pub returns : goal.returns
returns c = next_plan_is_applied

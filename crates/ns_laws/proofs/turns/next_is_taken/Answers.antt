use Rattle.ns_laws.proofs.Work.Turns.{next_is_taken}
use Rattle.ns_laws.proofs.turns.next_is_taken.Goals as goal

pub returns : goal.returns
returns c = next_is_taken

use Rattle.ns_laws.proofs.Scope.Asks.{ask_stays_inside}
use Rattle.ns_laws.proofs.reach.ask_stays_inside.Goals as goal

pub returns : goal.returns
returns c = ask_stays_inside

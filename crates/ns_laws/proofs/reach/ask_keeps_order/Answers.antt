use Rattle.ns_laws.proofs.Scope.Asks.{ask_keeps_order}
use Rattle.ns_laws.proofs.reach.ask_keeps_order.Goals as goal

pub returns : goal.returns
returns c = ask_keeps_order

use Rattle.ns_place.proofs.Walk.{next_keeps_order}
use Rattle.ns_place.proofs.laws.next_keeps_order.Goals as goal

pub returns : goal.returns
returns c = next_keeps_order

use Rattle.ns_place.proofs.Walk.{changed_alone_is_order}
use Rattle.ns_place.proofs.laws.changed_alone_is_order.Goals as goal

pub returns : goal.returns
returns c = changed_alone_is_order

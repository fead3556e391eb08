use Rattle.ns_laws.proofs.Index.Laws.{events_are_in_order}
use Rattle.ns_laws.proofs.indexes.events_are_in_order.Goals as goal

pub returns : goal.returns
returns c = events_are_in_order

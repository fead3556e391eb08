use Rattle.ns_laws.proofs.Texts.Ordering.{name_order}
use Rattle.ns_laws.proofs.names.name_order.Goals as goal

pub returns : goal.returns
returns c = name_order

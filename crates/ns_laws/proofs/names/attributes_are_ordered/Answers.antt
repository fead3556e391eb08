use Rattle.ns_laws.proofs.Texts.Orders.{attributes_are_ordered}
use Rattle.ns_laws.proofs.names.attributes_are_ordered.Goals as goal

pub returns : goal.returns
returns c = attributes_are_ordered

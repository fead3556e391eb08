use Rattle.ns_laws.proofs.Texts.Orders.{classes_are_ordered}
use Rattle.ns_laws.proofs.names.classes_are_ordered.Goals as goal

pub returns : goal.returns
returns c = classes_are_ordered

use Rattle.std.proofs.Common.{sym, subst}
use Rattle.ns_documents.specs.Nodes.{AreByKey}
use Rattle.ns_documents.proofs.Attributes.{none_stand_by_key}
use Rattle.ns_documents.proofs.node.attributes_or_none.Goals as goal

pub returns-in-None-clause-in_order : goal.returns-in-None-clause-in_order
returns-in-None-clause-in_order c = subst AreByKey (sym c.new.ensures) none_stand_by_key

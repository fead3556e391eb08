use Rattle.std.proofs.Common.{◌≡◌, []}
use Rattle.serde_json.specs.View.{members_view}
use Rattle.ns_documents.specs.Nodes.{each_attribute}
use Rattle.ns_documents.proofs.node.each_attribute.Given as goal

abbrev pub invariant-loop-key : goal.invariant-loop-key
invariant-loop-key l = each_attribute l.attributes (members_view l.key-iterator) ≡ each_attribute [] (members_view l.members.entries)

use Rattle.std.proofs.Common.{◌≡◌, drop, []}
use Rattle.serde_json.specs.View.{items_view}
use Rattle.ns_json.specs.Reading.{each}
use Rattle.ns_documents.specs.Members.{listed_name}
use Rattle.ns_documents.proofs.members.each_name.Given as goal

abbrev pub invariant-loop-value : goal.invariant-loop-value
invariant-loop-value l = each (listed_name l.member l.kind) l.names (items_view (drop l.value-index l.values)) ≡ each (listed_name l.member l.kind) []
    (items_view l.values)

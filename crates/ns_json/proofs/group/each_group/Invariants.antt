use Rattle.std.proofs.Common.{◌≡◌, drop, []}
use Rattle.serde_json.specs.View.{items_view}
use Rattle.ns_json.specs.Reading.{each}
use Rattle.ns_json.specs.Registration.{group_in}
use Rattle.ns_json.proofs.group.each_group.Given as goal

abbrev pub invariant-loop-value : goal.invariant-loop-value
invariant-loop-value l = each group_in l.groups (items_view (drop l.value-index l.values)) ≡ each group_in [] (items_view l.values)

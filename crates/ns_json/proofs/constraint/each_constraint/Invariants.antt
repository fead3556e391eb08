use Rattle.std.proofs.Common.{◌≡◌, drop, []}
use Rattle.serde_json.specs.View.{items_view}
use Rattle.ns_json.specs.Reading.{each}
use Rattle.ns_json.specs.Registration.{constraint_after}
use Rattle.ns_json.proofs.constraint.each_constraint.Given as goal

abbrev pub invariant-loop-value : goal.invariant-loop-value
invariant-loop-value l = each constraint_after l.constraints (items_view (drop l.value-index l.values)) ≡ each constraint_after [] (items_view l.values)

use Rattle.std.proofs.Common.{◌≡◌, drop, []}
use Rattle.serde_json.specs.View.{items_view}
use Rattle.ns_json.specs.Reading.{each}
use Rattle.ns_json.specs.Registration.{task_in}
use Rattle.ns_json.proofs.group.each_task.Given as goal

abbrev pub invariant-loop-value : goal.invariant-loop-value
invariant-loop-value l = each task_in l.tasks (items_view (drop l.value-index l.values)) ≡ each task_in [] (items_view l.values)

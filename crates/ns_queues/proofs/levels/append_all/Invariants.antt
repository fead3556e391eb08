use Rattle.ns_queues.proofs.Grouped.{Appending}
use Rattle.ns_queues.proofs.levels.append_all.Given as goal

abbrev pub invariant-loop-priority : goal.invariant-loop-priority
invariant-loop-priority l = Appending l.fn.groups l.initial.levels l.levels l.priority-iterator.rest.items

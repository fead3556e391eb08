use Rattle.ns_queues.specs.Ready.{SameKeys}
use Rattle.ns_queues.proofs.ready.clear_all.Given as goal

abbrev pub invariant-loop-i : goal.invariant-loop-i
invariant-loop-i l = SameKeys l.initial.levels l.levels

use Rattle.std.proofs.Common.{◌≡◌, ◌++◌}
use Rattle.ns_types.specs.State.Lists.{last}
use Rattle.ns_tables.proofs.events.kept.push_all.Given as goal

abbrev pub invariant-loop-event : goal.invariant-loop-event
invariant-loop-event l =
    (last l.initial.ring.capacity (l.ring.items ++ l.event-iterator.rest.items) ≡ last l.initial.ring.capacity (l.initial.ring.items ++ l.fn.events))
    × (l.ring.capacity ≡ l.initial.ring.capacity)

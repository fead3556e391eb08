use Rattle.std.proofs.Common.{◌≡◌}
use Rattle.std.specs.List.{flat_map}
use Rattle.ns_log.proofs.segments.joining.join.Given as goal

abbrev pub invariant-loop-segment : goal.invariant-loop-segment
invariant-loop-segment l =
    (goal.iterator-loop-segment).can_next l.segment-iterator
    × (goal.iterator-loop-segment).is_finite l.segment-iterator
    × (l.entries.items ≡ flat_map (λ s. s.log) l.yielded)

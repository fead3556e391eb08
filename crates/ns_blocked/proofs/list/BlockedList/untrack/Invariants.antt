use Rattle.std.proofs.Common.{◌≡◌, List, filter, length, not}
use Rattle.ns_blocked.specs.declared.entry.BlockedEvaluation.{BlockedEvaluation}
use Rattle.ns_blocked.specs.Blocked.{CanAdd, entries_of}
use Rattle.ns_types.specs.State.Names.{same_key}
use Rattle.ns_blocked.proofs.list.BlockedList.untrack.Given as goal

abbrev pub invariant-loop-place : goal.invariant-loop-place
invariant-loop-place l = (filter (λ e. not (same_key e.key l.key)) (entries_of l.self) ≡ filter (λ e. not (same_key e.key l.key)) (entries_of l.fn.self))
    × ((es : List BlockedEvaluation) → CanAdd es l.fn.self → CanAdd es l.self)

abbrev pub decreases-loop-place : goal.decreases-loop-place
decreases-loop-place l = length (entries_of l.self)

use Rattle.std.proofs.Common.{◌≡◌, List, drop, filter, not}
use Rattle.ns_blocked.specs.declared.entry.BlockedEvaluation.{BlockedEvaluation}
use Rattle.ns_blocked.specs.Blocked.{CanAdd, entries_of}
use Rattle.ns_types.specs.State.Names.{has_key}
use Rattle.ns_blocked.proofs.list.BlockedList.take_out.Given as goal

abbrev pub invariant-loop-key : goal.invariant-loop-key
invariant-loop-key l = (filter (λ e. not (has_key (drop l.key-index l.keys) e.key)) (entries_of l.self)
    ≡ filter (λ e. not (has_key l.keys e.key)) (entries_of l.initial.self)) × ((es : List BlockedEvaluation) → CanAdd es l.initial.self → CanAdd es l.self)

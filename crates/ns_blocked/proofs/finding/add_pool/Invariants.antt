use Rattle.std.proofs.Common.{◌&&◌, take}
use Rattle.std.specs.List.{list_any}
use Rattle.keyed.specs.Table.{row_at}
use Rattle.ns_blocked.specs.Waking.{AddsPlaces, is_usable}
use Rattle.ns_blocked.proofs.Places.{stands_at}
use Rattle.ns_blocked.proofs.finding.add_pool.Given as goal

abbrev pub invariant-loop-slot : goal.invariant-loop-slot
invariant-loop-slot l = AddsPlaces (λ n. list_any (λ slot. stands_at (λ k there. there && is_usable l.classes (row_at l.queue.placed.rows k)) slot n)
    (take l.slot-index l.slot-items)) l.initial.places.keys l.places.keys

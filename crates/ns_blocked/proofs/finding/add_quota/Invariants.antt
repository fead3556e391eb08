use Rattle.std.proofs.Common.{take}
use Rattle.std.specs.List.{list_any}
use Rattle.ns_blocked.specs.Waking.{AddsPlaces}
use Rattle.ns_blocked.proofs.Places.{stands_at}
use Rattle.ns_blocked.proofs.finding.add_quota.Given as goal

abbrev pub invariant-loop-slot : goal.invariant-loop-slot
invariant-loop-slot l = AddsPlaces (λ n. list_any (λ slot. stands_at (λ _ there. there) slot n) (take l.slot-index l.slot-items))
    l.initial.places.keys l.places.keys

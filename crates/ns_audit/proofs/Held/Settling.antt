-- What every step does at its end leaves allocations with their clients and in their pools.
use Rattle.std.specs.Prelude.{◌≡◌, ℕ, ◌+◌, Bool, true, false, cond, List, Option, Some, None}
use Rattle.std.proofs.Common.{refl, sym, ap, subst, ◌∙◌}
use Rattle.std.specs.FinMap.{get}
use Rattle.ns_types.specs.declared.allocation.Allocation.{Allocation}
use Rattle.ns_types.specs.Settling.Releases.{woken}
use Rattle.ns_types.specs.Settling.Settle.{unblocked_in, wake, number_releases, is_touched, changes_allocation, created_at, stamped_allocation}
use Rattle.ns_types.specs.Settling.Settle.{stamped, stamp_tenant, stamp, settle}
use Rattle.ns_types.specs.State.Names.{Key}
use Rattle.ns_types.specs.State.Rows.{World, Tenant}
use Rattle.ns_types.proofs.Named.{numbers, one_number}
use Rattle.ns_types.proofs.Queue.{queues_keep}
use Rattle.ns_audit.proofs.Steady.Keeping.{row_of_map}
use Rattle.ns_audit.proofs.ValidAllocations.Going.{Onward, onward_same, onward_map, onward_then}
use Rattle.ns_audit.proofs.Held.Rows.{RestsRow, Rests, rests_quiet, rests_still, rests_then}

wakes_rest : (keys : List Key) (w : World) → Onward Rests w (wake keys w)
unfolding wake
wakes_rest keys w ns t is = onward_map Rests rests_still w (unblocked_in keys) (λ k u. rests_quiet u (unblocked_in keys k u) refl) ns t
    (sym (ap (λ m. get m ns) (queues_keep (λ y. y.tenants) (λ y ks. refl) keys _)) ∙ is)

releases_rest : (w w' x : World) → Onward Rests x (number_releases w w' x)
unfolding number_releases
releases_rest w w' x = onward_same Rests rests_still x (number_releases w w' x) refl

stamped_rests : (index : ℕ) (o t : Tenant) → Rests t (stamped index o t)
stamped_rests index o t n b at =
    let y = row_of_map numbers one_number (stamped_allocation index o) t.allocations n b at in
    subst (RestsRow t.allocations n) y.2 (row y.0 y.1 (changes_allocation o n y.0))
  where
    row : (a : Allocation) → get t.allocations n ≡ Some a → (c : Bool) → RestsRow t.allocations n
        (cond c (record a { create_index = created_at index (get o.allocations n) (λ (a : Allocation). a.create_index); modify_index = index }) a)
    row a at true = record { row = a; is_row = at; pool = refl; desired = refl; client = refl }
    row a at false = record { row = a; is_row = at; pool = refl; desired = refl; client = refl }

stamp_rests : (o : Option Tenant) (t : Tenant) → Rests t (stamp_tenant o t)
unfolding stamp_tenant
stamp_rests None t = rests_still t
stamp_rests (Some o) t = elim (is_touched o t) as (λ c. Rests t (cond c (stamped (o.index + 1) o t) t))
    [ true ↦ stamped_rests (o.index + 1) o t | false ↦ rests_still t ]

stamps_rest : (w x : World) → Onward Rests x (stamp w x)
unfolding stamp
stamps_rest w x = onward_map Rests rests_still x (λ ns t. stamp_tenant (get w.tenants ns) t) (λ ns t. stamp_rests (get w.tenants ns) t)

pub settles_rest : (w w' : World) → Onward Rests w' (settle w w')
unfolding settle
settles_rest w w' = onward_then Rests rests_still rests_then w' y (stamp w y)
    (onward_then Rests rests_still rests_then w' x y (wakes_rest (woken w w') w') (releases_rest w w' x)) (stamps_rest w y)
  where
    x : World
    x = wake (woken w w') w'

    y : World
    y = number_releases w w' x

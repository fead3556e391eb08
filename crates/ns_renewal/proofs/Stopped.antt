-- The victims' rows after the stops of a plan are those before them.
use Rattle.std.specs.Prelude.{◌≡◌, ℕ, Bool, true, false, cond, ◌&&◌, List, [], ◌∷◌, Option, Some, None, map, option_map}
use Rattle.std.proofs.Common.{refl, sym, ap, ◌∙◌}
use Rattle.std.specs.List.{cons_option}
use Rattle.std.specs.Option.{option_map_or}
use Rattle.ns_types.specs.declared.allocation.Allocation.{Allocation}
use Rattle.ns_types.specs.declared.plan.Eviction.{Eviction}
use Rattle.ns_types.specs.declared.plan.Placement.{Placement}
use Rattle.ns_types.specs.declared.snapshot.Snapshot.{Snapshot}
use Rattle.ns_types.specs.State.Lists.{Each}
use Rattle.ns_types.specs.State.Names.{Name, Key, has_key, same_name, same_number}
use Rattle.ns_types.specs.State.Rows.{World, allocation_at, is_live, is_live_on}
use Rattle.ns_types.specs.Working.Commit.{counts, evicted_rows, node_name, stop_all, victim_at, victim_key, victims_of, victims_in}
use Rattle.ns_types.proofs.Elements.{each_flat_map, each_passes}
use Rattle.ns_types.proofs.Gone.{stopped_are, stopped_row}
use Rattle.ns_types.proofs.Less.{allocation_then}
use Rattle.ns_types.proofs.Lists.{each_map, not_both}
use Rattle.ns_types.proofs.Named.{first_of_both}
use Rattle.ns_renewal.specs.Losing.{victims_at}

module _ (w : World) (ns : Name) (stops : List ℕ) where
  abbrev stopped : World
  stopped = stop_all ns stops w

  abbrev live : Option Allocation → Bool
  live o = option_map_or is_live o false

  -- one that was stopped is not live
  live_same : (key : Key) → live (allocation_at stopped key) ≡ true → allocation_at stopped key ≡ allocation_at w key
  live_same key lives = then ∙ by (allocation_at w key) (has_key keys (key.0, key.1)) (sym (ap live then) ∙ lives)
    where
      keys : List Key
      keys = map (λ n. (ns, n)) stops

      then : allocation_at stopped key ≡ option_map (λ a. cond (has_key keys (key.0, key.1)) (stopped_row a) a) (allocation_at w key)
      then = ap (λ x. allocation_at x key) (stopped_are ns stops w) ∙ allocation_then stopped_row (λ a. refl) w keys key

      by : (o : Option Allocation) (b : Bool) → live (option_map (λ a. cond b (stopped_row a) a) o) ≡ true →
          option_map (λ a. cond b (stopped_row a) a) o ≡ o
      by None b e = refl
      by (Some a) true e = not_both e refl
      by (Some a) false e = refl

  counted_live : (pool node : Name) (e : Eviction) → counts stopped pool node e ≡ true → live (allocation_at stopped (victim_key e)) ≡ true
  unfolding counts
  counted_live pool node e = by (allocation_at stopped (victim_key e))
    where
      by : (o : Option Allocation) → option_map_or (λ a. is_live_on pool node a && same_number a.priority e.priority) o false ≡ true → live o ≡ true
      by None c = c
      by (Some a) c = first_of_both (is_live a) (same_name pool a.pool && same_name node a.node) (first_of_both (is_live_on pool node a) _ c)

  counted_same : (pool node : Name) (e : Eviction) → counts stopped pool node e ≡ true → victim_at stopped e ≡ victim_at w e
  counted_same pool node e c = ap (option_map (λ a. (e.namespace, (e.number, a)))) (live_same (victim_key e) (counted_live pool node e c))

  same_rows : (es : List Eviction) → Each (λ e. victim_at stopped e ≡ victim_at w e) es → victims_at stopped es ≡ victims_at w es
  same_rows [] all = refl
  same_rows (e ∷ es) all = λ i. cons_option (all.0 i) (same_rows es all.1 i)

  pub rows_before : (kept : Snapshot) (placed : List Placement) →
      evicted_rows stopped kept placed ≡ victims_at w (victims_of stopped kept placed)
  rows_before kept placed = same_rows (victims_of stopped kept placed) (each_flat_map (λ e. victim_at stopped e ≡ victim_at w e) (victims_in stopped kept)
      (λ p. each_map (counted_same kept.pool (node_name kept p.node)) (victims_in stopped kept p)
      (each_passes (counts stopped kept.pool (node_name kept p.node)) p.evictions)) placed)

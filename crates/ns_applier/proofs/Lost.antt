-- The victims of an Apply, by the evictions of its placements.
use Rattle.std.specs.Prelude.{◌≡◌, ◌<◌, ℕ, Bool, false, ◌&&◌, ◌||◌, List, [], ◌∷◌, Option, Some, None, length, nat_lt, option_map}
use Rattle.std.proofs.Common.{refl, sym, ap, ◌∙◌}
use Rattle.std.proofs.lemmas.Bool.{lt-ltb}
use Rattle.std.proofs.lemmas.List.Elements.{All-head, All-tail}
use Rattle.std.specs.Option.{option_map_or}
use Rattle.std.specs.List.{All, cons_option, filter_map, list_any}
use Rattle.ns_types.specs.declared.allocation.Allocation.{Allocation}
use Rattle.ns_types.specs.declared.plan.Eviction.{Eviction}
use Rattle.ns_types.specs.declared.plan.Placement.{Placement}
use Rattle.ns_types.specs.declared.snapshot.Snapshot.{Snapshot}
use Rattle.ns_types.specs.State.Names.{has_number, same_number}
use Rattle.ns_types.specs.State.Rows.{World, allocation_at, is_live_on}
use Rattle.ns_types.specs.Working.Commit.{counts, evicted_rows, node_name, victim_at, victims_in}
use Rattle.ns_types.proofs.Elements.{any_flat, any_same}
use Rattle.std.proofs.Math.Bool.{and_comm}
use Rattle.ns_applier.specs.HeadroomApplying.{victim_passes}
use Rattle.ns_types.specs.Working.Parts.{placed_on}
use Rattle.ns_applier.specs.Judging.{eviction_passes, evictions_pass_at}
use Rattle.ns_change.proofs.Listed.{any_filter}

any_mapped : {A B : Type 0} (f : B → Bool) (h : A → Option B) (xs : List A) → list_any f (filter_map h xs) ≡ list_any (λ x. option_map_or f (h x) false) xs
any_mapped f h [] = refl
any_mapped f h (x ∷ xs) = by (h x) ∙ ap (λ b. option_map_or f (h x) false || b) (any_mapped f h xs)
  where
    by : (o : Option _) → list_any f (cons_option o (filter_map h xs)) ≡ (option_map_or f o false || list_any f (filter_map h xs))
    by None = refl
    by (Some y) = refl

module _ (w stopped : World) (kept : Snapshot) where
  -- of an eviction that counts the row is there
  counted_is : (k : ℕ) (e : Eviction) → (counts stopped kept.pool (node_name kept k) e && option_map_or (victim_passes w) (victim_at stopped e) false)
      ≡ (eviction_passes w e && counts stopped kept.pool (node_name kept k) e)
  unfolding counts
  counted_is k e = by (allocation_at stopped (e.namespace, e.number)) ∙ and_comm _ (eviction_passes w e)
    where
      by : (o : Option Allocation) → (option_map_or (λ a. is_live_on kept.pool (node_name kept k) a && same_number a.priority e.priority) o false
          && option_map_or (victim_passes w) (option_map (λ a. (e.namespace, (e.number, a))) o) false)
          ≡ (option_map_or (λ a. is_live_on kept.pool (node_name kept k) a && same_number a.priority e.priority) o false && eviction_passes w e)
      by None = refl
      by (Some a) = refl

  pub victims_are : (placed : List Placement) → list_any (victim_passes w) (evicted_rows stopped kept placed)
      ≡ list_any (λ p. evictions_pass_at w stopped kept p.node p.evictions) placed
  victims_are placed = any_mapped (victim_passes w) (victim_at stopped) _
      ∙ any_flat (λ e. option_map_or (victim_passes w) (victim_at stopped e) false) (victims_in stopped kept) placed
      ∙ any_same _ _ (λ p. any_filter
      (λ e. option_map_or (victim_passes w) (victim_at stopped e) false) (counts stopped kept.pool (node_name kept p.node)) p.evictions
      ∙ any_same _ _ (counted_is p.node) p.evictions) placed

  -- each placement is on a node of the snapshot
  pub inside_are : (committed : List ℕ) (placements : List Placement) → All (λ p. p.node < length kept.nodes) placements →
      list_any (λ p. nat_lt p.node (length kept.nodes) && has_number committed p.node && evictions_pass_at w stopped kept p.node p.evictions) placements
      ≡ list_any (victim_passes w) (evicted_rows stopped kept (placed_on committed placements))
  inside_are committed placements inside = by placements inside
      ∙ sym (any_filter (λ p. evictions_pass_at w stopped kept p.node p.evictions) (λ p. has_number committed p.node) placements)
      ∙ sym (victims_are (placed_on committed placements))
    where
      passes : Placement → Bool
      passes p = evictions_pass_at w stopped kept p.node p.evictions

      by : (xs : List Placement) → All (λ p. p.node < length kept.nodes) xs →
          list_any (λ p. nat_lt p.node (length kept.nodes) && has_number committed p.node && passes p) xs
          ≡ list_any (λ p. has_number committed p.node && passes p) xs
      by [] all = refl
      by (p ∷ xs) all = (λ i. (lt-ltb p.node (length kept.nodes) (All-head (λ p. p.node < length kept.nodes) p xs all) i
          && has_number committed p.node && passes p)
          || by xs (All-tail (λ p. p.node < length kept.nodes) p xs all) i)

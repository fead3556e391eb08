-- The evictions that are gone over without a list are those of the victims, and all parts of what is judged.
use Rattle.std.specs.Prelude.{◌≡◌, ◌<◌, ℕ, Bool, true, false, cond, ◌&&◌, ◌||◌, List, [], ◌∷◌, ◌++◌, filter, flat_map, length, nat_lt}
use Rattle.std.proofs.Common.{refl, ap, sym, ◌∙◌}
use Rattle.std.proofs.lemmas.Bool.{lt-ltb}
use Rattle.std.proofs.lemmas.List.Elements.{All-head, All-tail}
use Rattle.std.specs.List.{All, list_any}
use Rattle.ns_types.specs.declared.plan.Eviction.{Eviction}
use Rattle.ns_types.specs.declared.plan.Placement.{Placement}
use Rattle.ns_types.specs.declared.plan.Plan.{Plan}
use Rattle.ns_types.specs.declared.snapshot.Snapshot.{Snapshot}
use Rattle.ns_types.specs.State.Names.{has_number}
use Rattle.ns_types.specs.State.Rows.{World}
use Rattle.ns_types.specs.Working.Commit.{counts, node_name, victims_in, victims_of}
use Rattle.ns_applier.specs.HeadroomApplying.{apply_passes, own_passes, place_passes, stop_passes, victim_passes}
use Rattle.ns_applier.specs.Judging.{doing, live_numbers, lost_part_passes, own_part_passes, placed_on}
use Rattle.ns_plan.specs.After.{after_stops}
use Rattle.ns_plan.specs.Looks.{IsOnFewNodes}
use Rattle.ns_renewal.specs.Counted.{counted_of}
use Rattle.ns_renewal.specs.Laws.{RowsBeforeStops}
use Rattle.ns_renewal.specs.Losing.{numbers_pass, victims_at}
use Rattle.ns_renewal.proofs.Stopped.{rows_before}
use Rattle.ns_applier.specs.Losing.{is_victim}

none_kept : {A : Type 0} (xs : List A) → filter (λ _. false) xs ≡ []
none_kept [] = refl
none_kept (x ∷ xs) = none_kept xs

module _ (stopped : World) (kept : Snapshot) (nodes : List ℕ) where
  abbrev inside : Placement → Type 0
  inside p = p.node < length kept.nodes

  pub victims_are : (ps : List Placement) → All inside ps → counted_of (is_victim stopped kept nodes) ps ≡ victims_of stopped kept (placed_on nodes ps)
  victims_are [] all = refl
  victims_are (p ∷ ps) all = by (victims_are ps (All-tail inside p ps all)) (has_number nodes p.node)
    where
      within : nat_lt p.node (length kept.nodes) ≡ true
      within = lt-ltb p.node (length kept.nodes) (All-head inside p ps all)

      its : Eviction → Bool
      its e = counts stopped kept.pool (node_name kept p.node) e

      by : counted_of (is_victim stopped kept nodes) ps ≡ victims_of stopped kept (placed_on nodes ps) → (b : Bool) →
          (filter (λ e. nat_lt p.node (length kept.nodes) && b && its e) p.evictions ++ counted_of (is_victim stopped kept nodes) ps)
          ≡ flat_map (victims_in stopped kept) (cond b (p ∷ placed_on nodes ps) (placed_on nodes ps))
      by rest true = λ i. filter (λ e. (within i && true) && its e) p.evictions ++ rest i
      by rest false = (λ i. filter (λ e. (within i && false) && its e) p.evictions ++ rest i)
          ∙ ap (λ l. l ++ victims_of stopped kept (placed_on nodes ps)) (none_kept p.evictions)

or_turned : (e o p s v : Bool) → (e || o || p || s || v) ≡ ((e || (o || p || s)) || v)
or_turned true o p s v = refl
or_turned false true p s v = refl
or_turned false false true s v = refl
or_turned false false false true v = refl
or_turned false false false false v = refl

module _ (w : World) (kept : Snapshot) (p : Plan) (nodes : List ℕ) (few : IsOnFewNodes kept p) where
  abbrev counted : Bool
  counted = numbers_pass (victims_at w (counted_of (is_victim (after_stops w kept.namespace p.stops) kept nodes) p.placing.placements)) w

  pub passes_are : apply_passes w kept (doing w kept p nodes) ≡ ((counted || own_part_passes w kept p nodes) || lost_part_passes w kept p nodes)
  passes_are =
      let d = doing w kept p nodes in
      or_turned (numbers_pass d.victims w) (own_passes w kept.namespace d) (list_any (place_passes w kept d.placed) d.placed)
      (list_any (stop_passes w kept.namespace) d.stops) (list_any (victim_passes w) d.victims)
      ∙ ap (λ victims. (numbers_pass victims w || own_part_passes w kept p nodes) || lost_part_passes w kept p nodes)
      (rows_before w kept.namespace (live_numbers w kept.namespace p.stops) kept (placed_on nodes p.placing.placements)
      ∙ ap (victims_at w) (sym (victims_are (after_stops w kept.namespace p.stops) kept nodes p.placing.placements few.inside)))

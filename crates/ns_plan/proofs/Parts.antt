-- From the parts as they are found to the parts that the model does.
use Rattle.std.specs.Prelude.{◌≡◌, ℕ, ◌++◌, Bool, true, false, cond, not, List, [], ◌∷◌, Some, ◌||◌, ◌+◌, ◌<◌, T, filter, length, map}
use Rattle.std.specs.Prelude.{take}
use Rattle.std.proofs.Common.{get_or, refl, sym, ap, subst, ◌∙◌}
use Rattle.std.proofs.lemmas.List.{append-nil, map-append}
use Rattle.std.specs.FinMap.{get}
use Rattle.std.specs.List.{list_any}
use Rattle.std.specs.Option.{option_and_then, option_map_or}
use Rattle.ns_types.specs.declared.plan.Placement.{Placement}
use Rattle.ns_types.specs.declared.plan.Plan.{Plan}
use Rattle.ns_types.specs.declared.snapshot.Snapshot.{Snapshot}
use Rattle.ns_types.specs.State.Lists.{first_each}
use Rattle.ns_types.specs.State.Names.{Key, has_number, same_number}
use Rattle.ns_types.specs.State.Rows.{Tenant, World, is_live}
use Rattle.ns_types.specs.Working.Commit.{Checked, commit, done, live_stops, no_part, nodes_in, refused_whole, still_stands, stop_all, victim_keys, victims_of}
use Rattle.ns_types.proofs.Lists.{any_chosen, each, filter-append, filter_none}
use Rattle.ns_types.proofs.Named.{numbers, one_number}
use Rattle.ns_types.proofs.Tables.{tied}
use Rattle.std.specs.Cmp.{eq_by_cmp_equiv}
use Rattle.ns_place.specs.Marks.{AreFlags}
use Rattle.ns_plan.proofs.Holding.{take_next}
use Rattle.ns_plan.specs.After.{after_stops, counted_stops}
use Rattle.ns_plan.specs.Looks.{decision_of, job_at}
use Rattle.ns_plan.specs.Reader.{IsDecided, read_all}
use Rattle.ns_plan.proofs.Reader.{decided_is}

-- one element more: of those that are the same the first
module _ {A : Type 0} (same : A → A → Bool) (turned : (a b : A) → same a b ≡ same b a) where
  pub first_push : (xs : List A) (k : A) → first_each same (xs ++ k ∷ []) ≡ cond (list_any (same k) xs) (first_each same xs) (first_each same xs ++ k ∷ [])
  first_push [] k = refl
  first_push (x ∷ xs) k = ap (λ l. x ∷ filter (λ y. not (same x y)) l) (first_push xs k) ∙ by (list_any (same k) xs) (same k x) refl
    where
      at_end : (b : Bool) → same x k ≡ b → filter (λ y. not (same x y)) (first_each same xs ++ k ∷ []) ≡ filter (λ y. not (same x y)) (first_each same xs) ++
          cond (not b) (k ∷ []) []
      at_end b e = filter-append (λ y. not (same x y)) (first_each same xs) (k ∷ []) ∙ ap (λ b. filter (λ y. not (same x y)) (first_each same xs) ++
          cond (not b) (k ∷ []) []) e

      by : (h : Bool) (s : Bool) → same k x ≡ s → x ∷ filter (λ y. not (same x y)) (cond h (first_each same xs) (first_each same xs ++ k ∷ []))
          ≡ cond (s || h) (x ∷ filter (λ y. not (same x y)) (first_each same xs)) ((x ∷ filter (λ y. not (same x y)) (first_each same xs)) ++ k ∷ [])
      by true true e = refl
      by true false e = refl
      by false true e = ap (λ l. x ∷ l) (at_end true (turned x k ∙ e) ∙ append-nil (filter (λ y. not (same x y)) (first_each same xs)))
      by false false e = ap (λ l. x ∷ l) (at_end false (turned x k ∙ e))

  module _ (is : (a b : A) → same a b ≡ true → a ≡ b) where
    pub first_has : (xs : List A) (k : A) → list_any (same k) (first_each same xs) ≡ list_any (same k) xs
    first_has [] k = refl
    first_has (x ∷ xs) k = by (first_has xs k) (same k x) refl
      where
        by : list_any (same k) (first_each same xs) ≡ list_any (same k) xs → (b : Bool) → same k x ≡ b →
            (b || list_any (same k) (filter (λ y. not (same x y)) (first_each same xs))) ≡ (b || list_any (same k) xs)
        by later true t = refl
        by later false t = sym (any_chosen (λ y. not (same x y)) (same k) (first_each same xs) (each _ (λ y. other y (same x y) refl) (first_each same xs)))
            ∙ later
          where
            other : (y : A) (b : Bool) → same x y ≡ b → not b ≡ false → same k y ≡ false
            other y true e _ = ap (same k) (sym (is x y e)) ∙ t
            other y false e n = absurd (subst T n tt)

module _ (ps : List Placement) (i : ℕ) (p : Placement) (inside : i < length ps) (at : p ≡ get_or ps i p) where
  -- a placement's node, unless it is there
  pub nodes_step : (nodes : List ℕ) → nodes ≡ nodes_in (take i ps) → (l : List ℕ) → l ≡ nodes → (b : Bool) → has_number l p.node ≡ b →
      cond b nodes (nodes ++ p.node ∷ []) ≡ nodes_in (take (i + 1) ps)
  nodes_step nodes so_far l seen b e = (λ j. cond (known j) (so_far j) (so_far j ++ p.node ∷ [])) ∙ sym (first_push same_number (eq_by_cmp_equiv numbers).symm
      (map (λ p. p.node) (take i ps)) p.node) ∙ ap (first_each same_number) (sym (map-append (λ (p : Placement). p.node) (take i ps) (p ∷ [])))
      ∙ ap nodes_in (sym (take_next ps i p inside at))
    where
      known : b ≡ has_number (map (λ p. p.node) (take i ps)) p.node
      known = sym e ∙ ap (λ l. has_number l p.node) (seen ∙ so_far)
          ∙ first_has same_number (eq_by_cmp_equiv numbers).symm (tied one_number) (map (λ p. p.node) (take i ps)) p.node

  -- and its flag
  pub flagged : (b : Bool) → has_number (nodes_in (take i ps)) p.node ≡ b → (flags : List Bool) →
      AreFlags flags (cond b (nodes_in (take i ps)) (nodes_in (take i ps) ++ p.node ∷ [])) → AreFlags flags (nodes_in (take (i + 1) ps))
  flagged b known flags = subst (AreFlags flags) (nodes_step (nodes_in (take i ps)) refl (nodes_in (take i ps)) refl b known)

module _ (kept : Snapshot) (p : Plan) (w : World) (t : Tenant) (is : get w.tenants kept.namespace ≡ Some t) where
  abbrev ps : List Placement
  ps = p.placing.placements

  -- the stops that count, as the model has them
  pub stops_are : counted_stops w kept.namespace p.stops ≡ live_stops t p.stops
  stops_are = λ i. filter (λ n. option_map_or is_live (option_and_then (λ (t : Tenant). get t.allocations n) (is i)) false) p.stops

  -- and the state after them
  pub after_is : after_stops w kept.namespace p.stops ≡ stop_all kept.namespace (live_stops t p.stops) w
  after_is = ap (λ l. stop_all kept.namespace l w) stops_are

  pub done_is : (committed dropped : List ℕ) → IsDecided committed dropped (read_all kept ps (after_stops w kept.namespace p.stops) (nodes_in ps)) →
      record { is_refused = false; committed = committed; dropped = dropped } ≡ decision_of (done kept p w t).checked
  done_is committed dropped d = λ i. record {
    is_refused = false;
    committed = (d.committed_is ∙ ap (λ x. (read_all kept ps x (nodes_in ps)).committed) after_is
        ∙ ap (λ c. c.committed) (sym (decided_is kept ps (stop_all kept.namespace (live_stops t p.stops) w) (nodes_in ps)))) i;
    dropped = (d.dropped_is ∙ ap (λ x. (read_all kept ps x (nodes_in ps)).dropped) after_is
        ∙ ap (λ c. c.dropped) (sym (decided_is kept ps (stop_all kept.namespace (live_stops t p.stops) w) (nodes_in ps)))) i;
  }

  -- the victims of the nodes that do their part
  pub victims_done : victim_keys (victims_of (after_stops w kept.namespace p.stops) kept
      (filter (λ q. has_number (done kept p w t).checked.committed q.node) ps)) ≡ (done kept p w t).checked.victims
  victims_done = ap (λ x. victim_keys (victims_of x kept (filter (λ q. has_number (done kept p w t).checked.committed q.node) ps))) after_is

  job_is : job_at w kept.namespace kept.evaluation.job ≡ get t.jobs kept.evaluation.job
  job_is = ap (option_and_then (λ (t : Tenant). get t.jobs kept.evaluation.job)) is

  -- where it stands, and where not
  pub checked_is : (b : Bool) → still_stands kept.job (job_at w kept.namespace kept.evaluation.job) ≡ b →
      (commit kept p w t).checked ≡ cond b (done kept p w t).checked (no_part p)
  unfolding commit
  checked_is b e = by b (ap (still_stands kept.job) (sym job_is) ∙ e)
    where
      by : (b : Bool) → still_stands kept.job (get t.jobs kept.evaluation.job) ≡ b → (commit kept p w t).checked ≡ cond b (done kept p w t).checked (no_part p)
      by true e = ap (λ b. (cond b (done kept p w t) (refused_whole kept p w)).checked) e
      by false e = ap (λ b. (cond b (done kept p w t) (refused_whole kept p w)).checked) e

  -- the victims of the nodes that do their part: of a plan that is refused none
  pub victims_checked : (committed : List ℕ) (keys : List Key) →
      keys ≡ victim_keys (victims_of (after_stops w kept.namespace p.stops) kept (filter (λ q. has_number committed q.node) ps)) →
      committed ≡ (commit kept p w t).checked.committed → keys ≡ (commit kept p w t).checked.victims
  victims_checked committed keys is same = is ∙ ap (λ l. victim_keys (victims_of after kept (filter (λ q. has_number l q.node) ps))) same
      ∙ by (still_stands kept.job (job_at w kept.namespace kept.evaluation.job)) refl
    where
      after : World
      after = after_stops w kept.namespace p.stops

      of_checked : Checked → List Key
      of_checked c = victim_keys (victims_of after kept (filter (λ q. has_number c.committed q.node) ps))

      by : (b : Bool) → still_stands kept.job (job_at w kept.namespace kept.evaluation.job) ≡ b →
          of_checked (commit kept p w t).checked ≡ (commit kept p w t).checked.victims
      by true e = ap of_checked (checked_is true e) ∙ victims_done ∙ ap (λ c. c.victims) (sym (checked_is true e))
      by false e = ap of_checked (checked_is false e) ∙ ap (λ l. victim_keys (victims_of after kept l))
          (filter_none (λ q. has_number [] q.node) ps (each _ (λ q. refl) ps))
          ∙ ap (λ c. c.victims) (sym (checked_is false e))

-- The stops and the victims were live, each is one of the two, and they are live no more.
use Rattle.std.specs.Prelude.{◌≡◌, ℕ, ◌&&◌, ◌||◌, Bool, true, false, cond, not, List, [], ◌∷◌, Option, Some, None, map, option_map}
use Rattle.std.proofs.Math.Bool.{and-not_self}
use Rattle.std.proofs.Common.{refl, sym, ap, subst, ◌∙◌}
use Rattle.std.proofs.lemmas.List.Folds.{list_any-append}
use Rattle.std.specs.FinMap.{get}
use Rattle.std.specs.Option.{option_and_then, option_map_or}
use Rattle.ns_types.specs.declared.allocation.Allocation.{Allocation}
use Rattle.ns_types.specs.declared.allocation.DesiredStatus.TheVariants as DesiredStatus
use Rattle.ns_types.specs.declared.plan.Eviction.{Eviction}
use Rattle.ns_types.specs.declared.plan.Placement.{Placement}
use Rattle.ns_types.specs.declared.plan.Plan.{Plan}
use Rattle.ns_types.specs.declared.snapshot.Snapshot.{Snapshot}
use Rattle.ns_types.specs.Placing.Plan.{placing_of, plan}
use Rattle.ns_types.specs.Placing.Wanted.{stopping}
use Rattle.ns_types.specs.State.Lists.{Each}
use Rattle.ns_types.specs.State.Names.{Key, Name, has_key, has_number, same_key, same_name, same_number}
use Rattle.ns_types.specs.State.Rows.{Tenant, World, allocation_at, is_live, is_live_on}
use Rattle.ns_types.specs.Working.Commit.{counts, done, live_stops, node_name, stop_all, victim_key, victims_in, victims_of}
use Rattle.ns_types.proofs.Elements.{any_kept, each_flat_map, each_mapped, each_of, each_passes}
use Rattle.ns_types.proofs.Gone.{stopped_are, stopped_row}
use Rattle.ns_types.proofs.Less.{allocation_then}
use Rattle.ns_types.proofs.Lists.{not_both}
use Rattle.ns_types.proofs.Named.{first_of_both, one_name, one_number, same_name_is, second_of_both}
use Rattle.ns_types.proofs.Once.{key_is, once_has}
use Rattle.ns_types.proofs.Tables.{tied}
use Rattle.ns_types.proofs.Tests.{is_no}
use Rattle.ns_plan.specs.After.{stop_keys}
use Rattle.ns_plan.proofs.Afterwards.{stopped_has}
use Rattle.ns_applier.specs.Releasing.{ends_at}
use Rattle.ns_types.specs.Working.Parts.{lives_at, stopped}
use Rattle.ns_applier.specs.Parts.{IsForJob, IsOutside, ended, placed, placed_in, stops, victims}
use Rattle.ns_applier.proofs.Whole.{allocations_stay}

-- what holds of each key holds of one that is among them
pub each_has : (P : Key → Type 0) (keys : List Key) → Each P keys → (k : Key) → has_key keys k ≡ true → P k
each_has P [] h k e = not_both e refl
each_has P (x ∷ keys) h k e = by (same_key k x) refl e (each_has P keys h.1 k)
  where
    by : (b : Bool) → same_key k x ≡ b → (b || has_key keys k) ≡ true → (has_key keys k ≡ true → P k) → P k
    by true t e later = subst P (sym (key_is k x t)) h.0
    by false t e later = later e

-- ---- evictions that count

module _ (w : World) (pool node : Name) (e : Eviction) (c : counts w pool node e ≡ true) where
  of_its_row : (o : Option Allocation) → allocation_at w (victim_key e) ≡ o →
      option_map_or (λ a. is_live_on pool node a && same_number a.priority e.priority) o false ≡ true
  unfolding counts
  of_its_row o at = ap (λ o. option_map_or (λ a. is_live_on pool node a && same_number a.priority e.priority) o false) (sym at) ∙ c

  pub counted_lives : lives_at w (victim_key e) ≡ true
  counted_lives = by (allocation_at w (victim_key e)) (of_its_row (allocation_at w (victim_key e)) refl)
    where
      by : (o : Option Allocation) → option_map_or (λ a. is_live_on pool node a && same_number a.priority e.priority) o false ≡ true →
          option_map_or is_live o false ≡ true
      by None h = h
      by (Some a) h = first_of_both (is_live a) _ (first_of_both (is_live_on pool node a) _ h)

  pub counted_on : (a : Allocation) → allocation_at w (victim_key e) ≡ Some a → same_name node a.node ≡ true
  counted_on a at = second_of_both (same_name pool a.pool) _ (second_of_both (is_live a) _ (first_of_both (is_live_on pool node a) _ (of_its_row (Some a) at)))

-- on nodes of different names they are of different allocations
pub victims_apart : (w : World) (pool a b : Name) (e f : Eviction) → same_name a b ≡ false → counts w pool a e ≡ true → counts w pool b f ≡ true →
    same_key (victim_key e) (victim_key f) ≡ false
victims_apart w pool a b e f other on_a on_b = by (same_key (victim_key e) (victim_key f)) refl
  where
    on_both : (x : Allocation) → allocation_at w (victim_key e) ≡ Some x → victim_key e ≡ victim_key f → same_name a b ≡ true
    on_both x at is = ap (same_name a) (same_name_is b x.node (counted_on w pool b f on_b x (ap (allocation_at w) (sym is) ∙ at)))
        ∙ counted_on w pool a e on_a x at

    row : (o : Option Allocation) → allocation_at w (victim_key e) ≡ o → victim_key e ≡ victim_key f → true ≡ false
    row None at is = sym (counted_lives w pool a e on_a) ∙ ap (λ o. option_map_or is_live o false) at
    row (Some x) at is = sym (on_both x at is) ∙ other

    by : (s : Bool) → same_key (victim_key e) (victim_key f) ≡ s → s ≡ false
    by true t = row (allocation_at w (victim_key e)) refl (key_is (victim_key e) (victim_key f) t)
    by false t = refl

-- ---- stops

stopped_lives : (w : World) (ns : Name) (numbers : List ℕ) (key : Key) →
    lives_at (stop_all ns numbers w) key ≡ (not (has_key (stop_keys ns numbers) key) && lives_at w key)
stopped_lives w ns numbers key = ap (λ x. lives_at x key) (stopped_are ns numbers w)
    ∙ ap (λ o. option_map_or is_live o false) (allocation_then stopped_row (λ a. refl) w (stop_keys ns numbers) key)
    ∙ by (allocation_at w key) (has_key (stop_keys ns numbers) key)
  where
    by : (o : Option Allocation) (b : Bool) → option_map_or is_live (option_map (λ a. cond b (stopped_row a) a) o) false
        ≡ (not b && option_map_or is_live o false)
    by None true = refl
    by None false = refl
    by (Some a) true = refl
    by (Some a) false = refl

live_stop : (t : Tenant) (numbers : List ℕ) (n : ℕ) → has_number (live_stops t numbers) n ≡ true → option_map_or is_live (get t.allocations n) false ≡ true
live_stop t numbers n e = second_of_both (has_number numbers n) _
    (sym (any_kept (same_number n) (λ m. option_map_or is_live (get t.allocations m) false) (option_map_or is_live (get t.allocations n) false)
    (λ m same. ap (λ m. option_map_or is_live (get t.allocations m) false) (sym (tied one_number n m same))) numbers) ∙ e)

module _ (kept : Snapshot) (p : Plan) (w : World) (t : Tenant) where
  pub victims_live : Each (λ e. lives_at (stopped kept p w t) (victim_key e) ≡ true) (victims_of (stopped kept p w t) kept (placed kept p w t))
  victims_live = each_flat_map (λ e. lives_at (stopped kept p w t) (victim_key e) ≡ true) (victims_in (stopped kept p w t) kept)
      (λ (q : Placement). each_of (λ e. counts (stopped kept p w t) kept.pool (node_name kept q.node) e ≡ true)
      (λ e. lives_at (stopped kept p w t) (victim_key e) ≡ true) (λ e c. counted_lives (stopped kept p w t) kept.pool (node_name kept q.node) e c)
      (victims_in (stopped kept p w t) kept q) (each_passes (counts (stopped kept p w t) kept.pool (node_name kept q.node)) q.evictions)) (placed kept p w t)

  victim_stays : (key : Key) → has_key (victims kept p w t) key ≡ true → (not (has_key (stops kept p w t) key) && lives_at w key) ≡ true
  victim_stays key e = sym (stopped_lives w kept.namespace (live_stops t p.stops) key)
      ∙ each_has (λ key. lives_at (stopped kept p w t) key ≡ true) (map victim_key (victims_of (stopped kept p w t) kept (placed kept p w t)))
      (each_mapped (λ key. lives_at (stopped kept p w t) key ≡ true) victim_key (victims_of (stopped kept p w t) kept (placed kept p w t)) victims_live) key
      (sym (once_has (map victim_key (victims_of (stopped kept p w t) kept (placed kept p w t))) key) ∙ e)

  -- no victim is a stop
  pub no_victim_is_stopped : (key : Key) → has_key (victims kept p w t) key ≡ true → has_key (stops kept p w t) key ≡ false
  no_victim_is_stopped key e = is_no (has_key (stops kept p w t) key) (first_of_both (not (has_key (stops kept p w t) key)) _ (victim_stays key e))

  module _ (is : get w.tenants kept.namespace ≡ Some t) where
    stop_lives : (key : Key) → has_key (stops kept p w t) key ≡ true → lives_at w key ≡ true
    stop_lives key e = ap (λ o. option_map_or is_live (option_and_then (λ (t : Tenant). get t.allocations key.1) o) false)
        (ap (get w.tenants) (tied one_name key.0 kept.namespace (first_of_both (same_name key.0 kept.namespace) _ both)) ∙ is)
        ∙ live_stop t p.stops key.1 (second_of_both (same_name key.0 kept.namespace) _ both)
      where
        both : (same_name key.0 kept.namespace && has_number (live_stops t p.stops) key.1) ≡ true
        both = sym (stopped_has kept.namespace (live_stops t p.stops) key.0 key.1) ∙ e

    pub ended_were_live : (key : Key) → has_key (ended kept p w t) key ≡ true → lives_at w key ≡ true
    ended_were_live key e = by (has_key (stops kept p w t) key) refl
        (sym (list_any-append (same_key key) (stops kept p w t) (victims kept p w t)) ∙ e)
      where
        by : (b : Bool) → has_key (stops kept p w t) key ≡ b → (b || has_key (victims kept p w t) key) ≡ true → lives_at w key ≡ true
        by true s e = stop_lives key s
        by false s e = second_of_both (not (has_key (stops kept p w t) key)) _ (victim_stays key e)

    -- of those that were there they end, and no other
    pub allocations_end : IsForJob kept p → (q : Name) (u : Tenant) → get w.tenants q ≡ Some u → (n : ℕ) →
        IsOutside u.allocation_number (placed_in kept p w t q) n →
        has_key (ended kept p w t) (q, n) ≡ ends_at w (done kept p w t).world (q, n)
    allocations_end for_job q u at n out = list_any-append (same_key (q, n)) (stops kept p w t) (victims kept p w t)
        ∙ by (allocation_at w (q, n)) (has_key (victims kept p w t) (q, n)) (has_key (stops kept p w t) (q, n))
        (λ e. ended_were_live (q, n) (list_any-append (same_key (q, n)) (stops kept p w t) (victims kept p w t) ∙ e))
        ∙ ap (λ o. lives_at w (q, n) && not (option_map_or is_live o false)) (sym (allocations_stay kept p w t for_job q u at n out))
      where
        left : Bool → Bool → Allocation → Allocation
        left v s a = cond v (record a { desired = DesiredStatus.Evict }) (cond s (record a { desired = DesiredStatus.Stop }) a)

        not_live : (b l : Bool) → (b ≡ true → l ≡ true) → l ≡ false → b ≡ false
        not_live true l h e = not_both (h refl) e
        not_live false l h e = refl

        by : (o : Option Allocation) (v s : Bool) → ((s || v) ≡ true → option_map_or is_live o false ≡ true) →
            (s || v) ≡ (option_map_or is_live o false && not (option_map_or is_live (option_map (left v s) o) false))
        by None v s live = not_live (s || v) false live refl
        by (Some a) true true live = sym (ap (λ b. b && true) (live refl))
        by (Some a) true false live = sym (ap (λ b. b && true) (live refl))
        by (Some a) false true live = sym (ap (λ b. b && true) (live refl))
        by (Some a) false false live = sym (and-not_self (is_live a))

-- ---- plans

-- a plan that places something is for a job
pub plan_is_for_job : (kept : Snapshot) → IsForJob kept (plan kept)
unfolding plan
plan_is_for_job kept none = ap (λ o. (placing_of kept o (stopping kept.job kept.own)).placements) none

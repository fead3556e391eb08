-- In which namespaces a row is new after an Apply, or shown otherwise than before.
use Rattle.std.specs.Prelude.{filter, ◌≡◌, ℕ, ◌+◌, ◌&&◌, ◌||◌, Bool, true, false, cond, not, List, [], ◌∷◌, Option, Some, None, filter_map, length}
use Rattle.std.specs.Prelude.{is_some, map, option_map, slice_get}
use Rattle.std.proofs.Common.{inl, refl, sym, ap, ◌∙◌, arith}
use Rattle.std.proofs.lemmas.List.Folds.{list_any-append}
use Rattle.std.proofs.Math.Bool.{or-true}
use Rattle.std.specs.FinMap.{get}
use Rattle.std.specs.List.{cons_option}
use Rattle.std.specs.Option.{option_and_then, option_map_or}
use Rattle.ns_types.specs.declared.allocation.Allocation.{Allocation}
use Rattle.ns_types.specs.declared.plan.Eviction.{Eviction}
use Rattle.ns_types.specs.declared.plan.Placement.{Placement}
use Rattle.ns_types.specs.declared.plan.Plan.{Plan}
use Rattle.ns_types.specs.declared.snapshot.Snapshot.{Snapshot}
use Rattle.ns_types.specs.Settling.Settle.{is_touched}
use Rattle.ns_types.specs.State.Lists.{Each, is_empty}
use Rattle.ns_types.specs.State.Names.{ByNumber, Key, Name, has_key, has_name, has_number, same_key, same_name, same_number}
use Rattle.ns_types.specs.State.Rows.{Tenant, World, allocation_at, is_live}
use Rattle.ns_types.specs.State.Tables.{map_rows}
use Rattle.ns_types.specs.Validity.{IsSound}
use Rattle.ns_types.specs.Working.Commit.{Victim, done, evicted_rows, live_stops, same_victim_job, stop_all, victim_at, victim_key, victims_of}
use Rattle.ns_types.specs.Working.Worker.{Worker}
use Rattle.ns_types.proofs.Elements.{any_map, each_first, map_map}
use Rattle.ns_types.specs.Settling.Gone.{gone_row}
use Rattle.ns_types.proofs.Gone.{evicted_row, stopped_row}
use Rattle.ns_types.proofs.Lists.{filter_none, left_none, not_both, right_none}
use Rattle.ns_types.proofs.Named.{first_of_both, numbers, one_number, same_number_refl, second_of_both}
use Rattle.ns_types.proofs.Once.{once_has}
use Rattle.ns_types.proofs.TableRows.{each_fails, no_entries}
use Rattle.ns_types.proofs.Tables.{map_rows_idle}
use Rattle.ns_types.proofs.Tests.{is_no, some_mapped}
use Rattle.ns_applier.specs.HeadroomApplying.{Doing, does_something, ended_keys}
use Rattle.ns_applier.specs.HeadroomApplying as counters
use Rattle.ns_applier.specs.Judging.{doing, live_numbers}
use Rattle.ns_applier.proofs.Shown.{touched_by_end, touched_by_new, untouched_rows}
use Rattle.ns_plan.proofs.Afterwards.{stopped_has}
use Rattle.ns_types.specs.Working.Parts.{lives_at, stopped}
use Rattle.ns_applier.specs.Parts.{IsForJob, ended, evicted, left_row, losers, placed, stops, victims}
use Rattle.ns_applier.proofs.Ending.{allocations_end, ended_were_live, victims_live}
use Rattle.ns_applier.proofs.Numbered.{added, added_row}
use Rattle.ns_applier.proofs.Placing.{own_rows}
use Rattle.ns_applier.proofs.Whole.{after, allocations_stay, counted, ended_in, made_in, rows, tenants_after}

-- ---- keys of a namespace

-- one of the keys is of the namespace
pub some_key : (ns : Name) (keys : List Key) → has_name (map (λ k. k.0) keys) ns ≡ true → (n : ℕ) × (has_key keys (ns, n) ≡ true)
some_key ns [] e = not_both e refl
some_key ns (k ∷ keys) e = by (same_name ns k.0) refl e (some_key ns keys)
  where
    by : (b : Bool) → same_name ns k.0 ≡ b → (b || has_name (map (λ k. k.0) keys) ns) ≡ true →
        (has_name (map (λ k. k.0) keys) ns ≡ true → (n : ℕ) × (has_key keys (ns, n) ≡ true)) → (n : ℕ) × (has_key (k ∷ keys) (ns, n) ≡ true)
    by true here e later = (k.1, λ i. (here i && same_number_refl k.1 i) || has_key keys (ns, k.1))
    by false other e later = let found = later e in (found.0, ap (λ b. same_key (ns, found.0) k || b) found.1 ∙ or-true (same_key (ns, found.0) k))

-- or none is
pub no_key : (ns : Name) (keys : List Key) → has_name (map (λ k. k.0) keys) ns ≡ false → (n : ℕ) → has_key keys (ns, n) ≡ false
no_key ns [] e n = refl
no_key ns (k ∷ keys) e n = λ i. (left_none (same_name ns k.0) _ e i && same_number n k.1) || no_key ns keys (right_none (same_name ns k.0) _ e) n i

-- ---- what is done

-- as counters are judged by it
abbrev pub its_doing : Snapshot → Plan → World → Tenant → Doing
its_doing kept p w t = record { stops = (done kept p w t).checked.stops; placed = placed kept p w t; victims = evicted kept p w t }

-- by the nodes that do their part
pub doing_is : (kept : Snapshot) (p : Plan) (w : World) (t : Tenant) → get w.tenants kept.namespace ≡ Some t →
    its_doing kept p w t ≡ doing w kept p (done kept p w t).checked.committed
doing_is kept p w t is = λ i. record {
  stops = live i;
  placed = placed kept p w t;
  victims = evicted_rows (stop_all kept.namespace (live i) w) kept (placed kept p w t);
}
  where
    live : live_stops t p.stops ≡ live_numbers w kept.namespace p.stops
    live = λ i. filter (λ n. option_map_or is_live (option_and_then (λ (t : Tenant). get t.allocations n) (sym is i)) false) p.stops

-- ---- the keys of the victims

rows_named : (x : World) (es : List Eviction) → Each (λ e. lives_at x (victim_key e) ≡ true) es →
    map counters.victim_key (filter_map (victim_at x) es) ≡ map victim_key es
rows_named x [] h = refl
rows_named x (e ∷ es) h = by (allocation_at x (e.namespace, e.number)) h.0 (rows_named x es h.1)
  where
    by : (o : Option Allocation) → option_map_or is_live o false ≡ true → map counters.victim_key (filter_map (victim_at x) es) ≡ map victim_key es →
        map counters.victim_key (cons_option {X = Victim} (option_map (λ a. (e.namespace, (e.number, a))) o) (filter_map (victim_at x) es))
        ≡ map victim_key (e ∷ es)
    by None live rest = not_both live refl
    by (Some a) live rest = ap (λ keys. victim_key e ∷ keys) rest

module _ (kept : Snapshot) (p : Plan) (w : World) (t : Tenant) where
  abbrev keys_lost : List Key
  keys_lost = map counters.victim_key (evicted kept p w t)

  victims_are : (key : Key) → has_key keys_lost key ≡ has_key (victims kept p w t) key
  victims_are key = ap (λ keys. has_key keys key)
      (rows_named (stopped kept p w t) (victims_of (stopped kept p w t) kept (placed kept p w t)) (victims_live kept p w t))
      ∙ sym (once_has (map victim_key (victims_of (stopped kept p w t) kept (placed kept p w t))) key)

  pub ended_are : (key : Key) → has_key (ended_keys kept (its_doing kept p w t)) key ≡ has_key (ended kept p w t) key
  ended_are key = list_any-append (same_key key) (stops kept p w t) keys_lost ∙ ap (λ b. has_key (stops kept p w t) key || b) (victims_are key)
      ∙ sym (list_any-append (same_key key) (stops kept p w t) (victims kept p w t))

  -- the namespaces of the victims
  lost_names : map (λ k. k.0) keys_lost ≡ map (λ v. v.0) (evicted kept p w t)
  lost_names = map_map (λ k. k.0) counters.victim_key (evicted kept p w t)

  abbrev something : Bool
  something = does_something (its_doing kept p w t)

  abbrev is_own : Name → Bool
  is_own q = same_name q kept.namespace

  abbrev loses : Name → Bool
  loses q = has_name (map (λ v. v.0) (evicted kept p w t)) q

  module _ (sound : IsSound w) (is : get w.tenants kept.namespace ≡ Some t) (for_job : IsForJob kept p) (q : Name) (u : Tenant)
      (at : get w.tenants q ≡ Some u) (workers : ByNumber Worker) where
    abbrev then : Tenant
    then = record (after kept p w t q u) { workers = workers }

    in_then : (n : ℕ) → allocation_at (done kept p w t).world (q, n) ≡ get then.allocations n
    in_then n = ap (option_and_then (λ u. get u.allocations n)) (tenants_after kept p w t q ∙ ap (option_map (after kept p w t q)) at)

    in_before : (n : ℕ) → allocation_at w (q, n) ≡ get u.allocations n
    in_before n = ap (option_and_then (λ u. get u.allocations n)) at

    -- by an allocation that ends
    by_end : (n : ℕ) → has_key (ended kept p w t) (q, n) ≡ true → is_touched u then ≡ true
    by_end n e = before (get u.allocations n) refl (sym (ap (λ o. option_map_or is_live o false) (in_before n)) ∙ ended_were_live kept p w t is (q, n) e)
      where
        last : (a : Allocation) → get u.allocations n ≡ Some a → is_live a ≡ true → (o : Option Allocation) → get then.allocations n ≡ o →
            option_map_or is_live o false ≡ false → is_some o ≡ true → is_touched u then ≡ true
        last a row live None there dead some = not_both some refl
        last a row live (Some b) there dead some = touched_by_end u then n b there a row live dead

        before : (o : Option Allocation) → get u.allocations n ≡ o → option_map_or is_live o false ≡ true → is_touched u then ≡ true
        before None row live = not_both live refl
        before (Some a) row live =
            let out = inl ((sound.tenant q u at).allocation n a row).below in
            last a row live (get then.allocations n) refl
            (ap (λ o. option_map_or is_live o false) (sym (in_then n)) ∙ dead (lives_at (done kept p w t).world (q, n))
            (sym (allocations_end kept p w t is for_job q u at n out) ∙ e))
            (ap is_some (sym (in_then n) ∙ allocations_stay kept p w t for_job q u at n out)
            ∙ some_mapped (left_row (stops kept p w t) (victims kept p w t) (q, n)) (allocation_at w (q, n)) ∙ ap is_some (in_before n ∙ row))
          where
            dead : (l : Bool) → (lives_at w (q, n) && not l) ≡ true → l ≡ false
            dead l e = is_no l (second_of_both (lives_at w (q, n)) _ e)

    by_victim : loses q ≡ true → is_touched u then ≡ true
    by_victim e = let found = some_key q keys_lost (ap (λ names. has_name names q) lost_names ∙ e) in
        by_end found.0 (list_any-append (same_key (q, found.0)) (stops kept p w t) (victims kept p w t)
        ∙ ap (λ b. has_key (stops kept p w t) (q, found.0) || b) (sym (victims_are (q, found.0)) ∙ found.1) ∙ or-true (has_key (stops kept p w t) (q, found.0)))

    -- by a stop, or by an allocation that is new
    by_own : is_own q ≡ true → something ≡ true → is_touched u then ≡ true
    by_own own some = by (done kept p w t).checked.stops refl (placed kept p w t) refl some
      where
        new : get u.allocations (u.allocation_number + 1) ≡ None
        new = none (get u.allocations (u.allocation_number + 1)) refl
          where
            none : (o : Option Allocation) → get u.allocations (u.allocation_number + 1) ≡ o → o ≡ None
            none None row = refl
            none (Some a) row = let below = ((sound.tenant q u at).allocation (u.allocation_number + 1) a row).below in absurd (omega (arith, below))

        row : (rs : List Allocation) → rows kept p w t ≡ rs → length rs ≡ length (placed kept p w t) → is_empty (placed kept p w t) ≡ false →
            is_touched u then ≡ true
        row [] are long some = not_both (ap is_empty (no_entries (placed kept p w t) (sym long))) some
        row (r ∷ rs) are long some = touched_by_new u then (u.allocation_number + 1) r
            (added_row u.allocation_number (own_rows kept (rows kept p w t) q) (ended_in kept p w t q u).allocations 0 r
            (λ i. slice_get (cond (own i) (are i) []) 0) (u.allocation_number + 1) refl) new

        by : (ss : List ℕ) → (done kept p w t).checked.stops ≡ ss → (qs : List Placement) → placed kept p w t ≡ qs →
            (not (is_empty ss) || not (is_empty qs)) ≡ true → is_touched u then ≡ true
        by (n ∷ ss) stop qs there some = by_end n (list_any-append (same_key (q, n)) (stops kept p w t) (victims kept p w t)
            ∙ ap (λ b. b || has_key (victims kept p w t) (q, n)) (stopped_has kept.namespace (done kept p w t).checked.stops q n
            ∙ (λ i. own i && has_number (stop i) n) ∙ ap (λ b. b || has_number ss n) (same_number_refl n)))
        by [] stop (r ∷ qs) there some = row (rows kept p w t) refl (counted kept p w t for_job) (ap is_empty there)
        by [] stop [] there some = not_both some refl

    -- else by nothing
    module _ (idle : (is_own q && something) ≡ false) (lost : loses q ≡ false) where
      none_made : made_in kept p w t q u ≡ []
      none_made = ap (map _) (filter_none (λ (v : Victim). same_name q v.0) (losers kept p w t)
          (each_first (λ (v : Victim). same_name q v.0 ≡ false) same_victim_job (evicted kept p w t)
          (each_fails (λ (v : Victim). same_name q v.0) (evicted kept p w t) (sym (any_map (same_name q) (λ (v : Victim). v.0) (evicted kept p w t)) ∙ lost))))

      neither : (b : Bool) → is_own q ≡ b → (own_rows kept (rows kept p w t) q ≡ []) × ((n : ℕ) → has_key (stops kept p w t) (q, n) ≡ false)
      neither false own = (
        ap (λ b. cond b (rows kept p w t) []) own,
        λ n. stopped_has kept.namespace (done kept p w t).checked.stops q n ∙ ap (λ b. b && has_number (done kept p w t).checked.stops n) own,
      )
      neither true own = by (done kept p w t).checked.stops refl (placed kept p w t) refl (ap (λ b. b && something) (sym own) ∙ idle)
        where
          by : (ss : List ℕ) → (done kept p w t).checked.stops ≡ ss → (qs : List Placement) → placed kept p w t ≡ qs →
              (not (is_empty ss) || not (is_empty qs)) ≡ false →
              (own_rows kept (rows kept p w t) q ≡ []) × ((n : ℕ) → has_key (stops kept p w t) (q, n) ≡ false)
          by [] stop [] there e = (
            ap (λ b. cond b (rows kept p w t) []) own ∙ no_entries (rows kept p w t) (counted kept p w t for_job ∙ ap length there),
            λ n. stopped_has kept.namespace (done kept p w t).checked.stops q n ∙ (λ i. own i && has_number (stop i) n),
          )
          by (n ∷ ss) stop qs there e = not_both refl e
          by [] stop (r ∷ qs) there e = not_both refl e

      same_rows : (g : Allocation → Allocation) (keys : List Key) (m : ByNumber Allocation) → ((n : ℕ) → has_key keys (q, n) ≡ false) →
          map_rows (gone_row g keys q) m ≡ m
      same_rows g keys m none = map_rows_idle numbers one_number (gone_row g keys q) m (λ n a _. ap (λ b. cond b (g a) a) (none n))

      by_nothing : is_touched u then ≡ false
      by_nothing = untouched_rows u then refl (ap (λ es. added u.evaluation_number es u.evaluations) none_made)
          (ap (λ rs. added u.allocation_number rs (ended_in kept p w t q u).allocations) (neither (is_own q) refl).0
          ∙ same_rows evicted_row (victims kept p w t) (map_rows (gone_row stopped_row (stops kept p w t) q) u.allocations)
          (λ n. sym (victims_are (q, n)) ∙ no_key q keys_lost (ap (λ names. has_name names q) lost_names ∙ lost) n)
          ∙ same_rows stopped_row (stops kept p w t) u.allocations (neither (is_own q) refl).1)

    pub touched_is : is_touched u then ≡ ((is_own q && something) || loses q)
    touched_is = by (is_own q && something) refl (loses q) refl
      where
        by : (b : Bool) → (is_own q && something) ≡ b → (l : Bool) → loses q ≡ l → is_touched u then ≡ (b || l)
        by true e l lost = by_own (first_of_both (is_own q) something e) (second_of_both (is_own q) something e)
        by false e true lost = by_victim lost
        by false e false lost = by_nothing e lost

-- Numbers and indexes of namespaces, once such a step has settled: a row of a namespace is shown otherwise by the step itself, or since it woke.
use Rattle.std.specs.Prelude.{◌≡◌, ℕ, ◌+◌, Bool, true, false, ◌&&◌, ◌||◌, if◌then◌else◌, List, Option, Some, None, nat_lt, option_map}
use Rattle.std.specs.Prelude.{is_some}
use Rattle.std.proofs.Common.{refl, sym, ap, ◌∙◌}
use Rattle.std.specs.Option.{option_and_then, option_map_or}
use Rattle.std.specs.List.{list_any}
use Rattle.std.specs.FinMap.{get}
use Rattle.ns_types.specs.declared.evaluation.Evaluation.{Evaluation}
use Rattle.ns_types.specs.Settling.Releases.{woken}
use Rattle.ns_types.specs.Settling.Settle.{changes_allocation, changes_evaluation, changes_job, is_touched, number_releases, pending, settle, stamp}
use Rattle.ns_types.specs.Settling.Settle.{stamp_tenant, stamped, unblocked_in, wake, woken_row}
use Rattle.ns_types.specs.State.Names.{Name, Key, has_key, same_name}
use Rattle.ns_types.specs.State.Rows.{World, Tenant, evaluation_at}
use Rattle.ns_types.specs.State.Tables.{any_row, map_rows}
use Rattle.ns_types.specs.Steps.{greatest, is_tenant_past_bound}
use Rattle.ns_types.proofs.Elements.{any_same}
use Rattle.ns_types.proofs.Lists.{left_none, not_both}
use Rattle.ns_types.proofs.Named.{names, numbers, one_name, one_number, second_of_both}
use Rattle.ns_types.proofs.Queue.{queues_keep}
use Rattle.ns_types.proofs.Settling.{kept_evaluation}
use Rattle.ns_types.proofs.TableRows.{any_row-alike}
use Rattle.ns_types.proofs.Tables.{none_of_any}
use Rattle.ns_types.proofs.Tests.{and_turned, or_none, same_Some}
use Rattle.ns_release.specs.Released.{releases_wake_at}
use Rattle.ns_release.proofs.Rooms.{any_and}
use Rattle.ns_counters.proofs.Each.{split_last}
use Rattle.ns_counters.specs.Bounds.{is_at_bound, shows_awake}
use Rattle.ns_counters.specs.Given.{given_waking_passes, given_waking_passes_in}
use Rattle.ns_counters.proofs.Bounded.{any_named, any_row-either, any_row-mapped}
use Rattle.keyed.proofs.Queues.{has_filter}
use Rattle.ns_applier.specs.Passing.{index_passes, indexes_pass, is_number_past, numbers_past}
use Rattle.ns_applier.specs.Releasing.{EndsAlone}
use Rattle.ns_applier.proofs.Ended.{quotas, rooms, woken_are}
use Rattle.ns_applier.proofs.Keys.{any_members, any_row-keys}
use Rattle.std.proofs.Math.Bool.{and-false}
use Rattle.ns_change.proofs.Listed.{any_filter}

-- ---- one namespace

module _ (t u : Tenant) where
  -- its next index, where rows of it were touched
  stamped_past : nat_lt greatest u.index ≡ false →
      is_tenant_past_bound (stamp_tenant (Some t) u) ≡ (is_number_past u || (is_at_bound t.index && is_touched t u))
  unfolding stamp_tenant
  stamped_past within = by (is_touched t u)
    where
      next : (i e a : Bool) → (i || e || a) ≡ ((e || a) || (i && true))
      next true true a = refl
      next true false true = refl
      next true false false = refl
      next false true a = refl
      next false false true = refl
      next false false false = refl

      same : (i n e a : Bool) → n ≡ false → (n || e || a) ≡ ((e || a) || (i && false))
      same i true e a is = not_both refl is
      same i false e a is = sym (ap (λ b. (e || a) || b) (and-false i) ∙ or_none (e || a))

      by : (b : Bool) → is_tenant_past_bound (if b then stamped (t.index + 1) t u else u) ≡ (is_number_past u || (is_at_bound t.index && b))
      by true = next (is_at_bound t.index) (nat_lt greatest u.evaluation_number) (nat_lt greatest u.allocation_number)
      by false = same (is_at_bound t.index) _ (nat_lt greatest u.evaluation_number) (nat_lt greatest u.allocation_number) within

  module _ (ns : Name) (keys : List Key) (asleep : (n : ℕ) → has_key keys (ns, n) ≡ true → get u.evaluations n ≡ get t.evaluations n) where
    abbrev wakes_shown : Key → Bool
    wakes_shown k = same_name ns k.0 && shows_awake t k.1 (get u.evaluations k.1)

    evaluations_touched : any_row (changes_evaluation t) (unblocked_in keys ns u).evaluations
        ≡ (any_row (changes_evaluation t) u.evaluations || list_any wakes_shown keys)
    evaluations_touched = any_row-mapped (changes_evaluation t) (woken_row keys ns) u.evaluations
        ∙ any_row-alike numbers one_number _ (λ n e. changes_evaluation t n e || (has_key keys (ns, n) && changes_evaluation t n (pending e))) u.evaluations
        (λ n e at. by n e at (has_key keys (ns, n)) refl)
        ∙ any_row-either (changes_evaluation t) (λ n e. has_key keys (ns, n) && changes_evaluation t n (pending e)) u.evaluations
        ∙ ap (λ b. any_row (changes_evaluation t) u.evaluations || b) (any_row-keys ns keys (λ n e. changes_evaluation t n (pending e)) u.evaluations)
      where
        by : (n : ℕ) (e : Evaluation) → get u.evaluations n ≡ Some e → (b : Bool) → has_key keys (ns, n) ≡ b →
            changes_evaluation t n (if b then pending e else e) ≡ (changes_evaluation t n e || (b && changes_evaluation t n (pending e)))
        by n e at true is = ap (λ b. b || changes_evaluation t n (pending e)) (sym (kept_evaluation t n e (sym (asleep n is) ∙ at)))
        by n e at false is = sym (or_none (changes_evaluation t n e))

    awake_touched : is_touched t (unblocked_in keys ns u) ≡ (is_touched t u || list_any wakes_shown keys)
    awake_touched = ap (λ b. any_row (λ id _. changes_job t u id) u.jobs || any_row (λ id _. changes_job t u id) t.jobs || b
        || any_row (changes_allocation t) u.allocations) evaluations_touched
        ∙ turned (any_row (λ id _. changes_job t u id) u.jobs || any_row (λ id _. changes_job t u id) t.jobs) (any_row (changes_evaluation t) u.evaluations)
        (list_any wakes_shown keys) (any_row (changes_allocation t) u.allocations)
      where
        turned : (j e k a : Bool) → (j || (e || k) || a) ≡ ((j || e || a) || k)
        turned true e k a = refl
        turned false true k a = refl
        turned false false true true = refl
        turned false false true false = refl
        turned false false false a = sym (or_none a)

-- ---- all namespaces

module _ (w x : World) (keys : List Key) (only : EndsAlone w x keys) where
  abbrev awake : List Key
  awake = woken w x

  abbrev wakes : Key → Bool
  wakes = releases_wake_at w (rooms w x keys only) (quotas w x keys only)

  tenants_then : (settle w x).tenants ≡ map_rows (λ ns t. stamp_tenant (get w.tenants ns) t) (map_rows (unblocked_in awake) x.tenants)
  unfolding settle stamp number_releases wake
  tenants_then = ap (map_rows (λ ns t. stamp_tenant (get w.tenants ns) t)) (queues_keep (λ w. w.tenants) (λ w keys. refl) awake _)

  was_blocked : (key : Key) → has_key awake key ≡ true → has_key w.blocked key ≡ true
  was_blocked key is = second_of_both (wakes key) (has_key w.blocked key) (sym (has_filter wakes key w.blocked)
      ∙ ap (λ keys. has_key keys key) (sym (woken_are w x keys only)) ∙ is)

  -- a namespace that was there, with its index
  there : (ns : Name) (u : Tenant) → get x.tenants ns ≡ Some u → (t : Tenant) × (get w.tenants ns ≡ Some t) × (u.index ≡ t.index)
  there ns u at = by (get w.tenants ns) refl (sym (ap (option_map (λ (t : Tenant). t.index)) at) ∙ only.indexes ns)
    where
      by : (o : Option Tenant) → get w.tenants ns ≡ o → Some u.index ≡ option_map (λ (t : Tenant). t.index) o →
          (t : Tenant) × (get w.tenants ns ≡ Some t) × (u.index ≡ t.index)
      by None is e = not_both refl (ap is_some e)
      by (Some t) is e = (t, is, same_Some u.index t.index e)

  abbrev shown_at : Key → Name → Tenant → Bool
  shown_at k ns u = option_map_or (λ t. is_at_bound t.index && shows_awake t k.1 (get u.evaluations k.1)) (get w.tenants ns) false

  abbrev by_waking : Name → Tenant → Bool
  by_waking ns u = list_any (λ k. same_name ns k.0 && shown_at k ns u) awake

  -- ---- by an evaluation that wakes

  abbrev shown : Key → Tenant → Bool
  shown k t = is_at_bound t.index && shows_awake t k.1 (evaluation_at w k)

  wakings_pass : any_row by_waking x.tenants ≡ list_any (given_waking_passes w (rooms w x keys only) (quotas w x keys only)) w.blocked
  wakings_pass = any_named (λ k. k.0) shown_at x.tenants awake
      ∙ any_members _ (λ k. option_map_or (shown k) (get w.tenants k.0) false) awake (λ k is. at k is (get x.tenants k.0) refl)
      ∙ ap (list_any (λ k. option_map_or (shown k) (get w.tenants k.0) false)) (woken_are w x keys only)
      ∙ any_filter (λ k. option_map_or (shown k) (get w.tenants k.0) false) wakes w.blocked
      ∙ any_same _ (given_waking_passes w (rooms w x keys only) (quotas w x keys only)) (λ k. by k (get w.tenants k.0)) w.blocked
    where
      none : (k : Key) (o : Option Tenant) → None ≡ option_map (λ (t : Tenant). t.index) o → false ≡ option_map_or (shown k) o false
      none k None e = refl
      none k (Some t) e = not_both refl (sym (ap is_some e))

      at : (k : Key) → has_key awake k ≡ true → (o : Option Tenant) → get x.tenants k.0 ≡ o →
          option_map_or (shown_at k k.0) o false ≡ option_map_or (shown k) (get w.tenants k.0) false
      at k is None out = none k (get w.tenants k.0) (sym (ap (option_map (λ (t : Tenant). t.index)) out) ∙ only.indexes k.0)
      at k is (Some u) there = ap (λ row. option_map_or (λ t. is_at_bound t.index && shows_awake t k.1 row) (get w.tenants k.0) false)
          (sym (ap (option_and_then (λ (t : Tenant). get t.evaluations k.1)) there) ∙ only.asleep k (was_blocked k is))

      by : (k : Key) (o : Option Tenant) → (wakes k && option_map_or (shown k) o false)
          ≡ option_map_or (given_waking_passes_in w (rooms w x keys only) (quotas w x keys only) k) o false
      by k None = and-false (wakes k)
      by k (Some t) = and_turned (wakes k) (is_at_bound t.index) (shows_awake t k.1 (evaluation_at w k))

  -- ---- all of it

  module _ (within : any_row (λ _ t. is_tenant_past_bound t) w.tenants ≡ false) where
    one_past : (ns : Name) (u : Tenant) → get x.tenants ns ≡ Some u → is_tenant_past_bound (stamp_tenant (get w.tenants ns) (unblocked_in awake ns u))
        ≡ ((is_number_past u || index_passes w ns u) || by_waking ns u)
    one_past ns u at =
        let (t, is, index) = there ns u at in
        ap (λ o. is_tenant_past_bound (stamp_tenant o (unblocked_in awake ns u))) is
        ∙ stamped_past t (unblocked_in awake ns u)
        (ap (nat_lt greatest) index ∙ left_none _ _ (left_none _ _ (none_of_any one_name (λ _ t. is_tenant_past_bound t) w.tenants ns t within is)))
        ∙ ap (λ b. is_number_past u || (is_at_bound t.index && b)) (awake_touched t u ns awake (asleep t is))
        ∙ split_last (is_number_past u) (is_at_bound t.index) (is_touched t u)
        (list_any (λ k. same_name ns k.0 && shows_awake t k.1 (get u.evaluations k.1)) awake)
        ∙ (λ i. (is_number_past u || option_map_or (λ old. is_at_bound old.index && is_touched old u) (sym is i) false) || waking t is i)
      where
        asleep : (t : Tenant) → get w.tenants ns ≡ Some t → (n : ℕ) → has_key awake (ns, n) ≡ true → get u.evaluations n ≡ get t.evaluations n
        asleep t is n wakes = sym (ap (option_and_then (λ (t : Tenant). get t.evaluations n)) at) ∙ only.asleep (ns, n) (was_blocked (ns, n) wakes)
            ∙ ap (option_and_then (λ (t : Tenant). get t.evaluations n)) is

        waking : (t : Tenant) → get w.tenants ns ≡ Some t →
            (is_at_bound t.index && list_any (λ k. same_name ns k.0 && shows_awake t k.1 (get u.evaluations k.1)) awake) ≡ by_waking ns u
        waking t is = any_and (is_at_bound t.index) (λ k. same_name ns k.0 && shows_awake t k.1 (get u.evaluations k.1)) awake
            ∙ any_same _ (λ k. same_name ns k.0 && shown_at k ns u) (λ k. and_turned (is_at_bound t.index) (same_name ns k.0) _
            ∙ ap (λ o. same_name ns k.0 && option_map_or (λ t. is_at_bound t.index && shows_awake t k.1 (get u.evaluations k.1)) o false) (sym is)) awake

    pub tenants_within : any_row (λ _ t. is_tenant_past_bound t) (settle w x).tenants
        ≡ ((numbers_past x || indexes_pass w x) || list_any (given_waking_passes w (rooms w x keys only) (quotas w x keys only)) w.blocked)
    tenants_within = ap (any_row (λ _ t. is_tenant_past_bound t)) tenants_then
        ∙ any_row-mapped (λ _ t. is_tenant_past_bound t) (λ ns t. stamp_tenant (get w.tenants ns) t) _
        ∙ any_row-mapped (λ ns t. is_tenant_past_bound (stamp_tenant (get w.tenants ns) t)) (unblocked_in awake) x.tenants
        ∙ any_row-alike names one_name _ (λ ns u. (is_number_past u || index_passes w ns u) || by_waking ns u) x.tenants one_past
        ∙ any_row-either (λ ns u. is_number_past u || index_passes w ns u) by_waking x.tenants
        ∙ (λ i. any_row-either (λ _ u. is_number_past u) (index_passes w) x.tenants i || wakings_pass i)

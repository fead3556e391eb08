-- Indexes and numbers of namespaces pass their bounds only where the change, or an evaluation that wakes, makes them.
use Rattle.std.specs.Prelude.{◌≡◌, ℕ, ◌+◌, Bool, true, false, not, if◌then◌else◌, List, Option, Some, None, ◌&&◌, ◌||◌, nat_lt}
use Rattle.std.specs.Prelude.{filter, option_map}
use Rattle.std.proofs.Common.{refl, sym, ap, ◌∙◌}
use Rattle.std.specs.Option.{option_and_then, option_map_or}
use Rattle.std.specs.List.{list_any}
use Rattle.std.specs.Cmp.{eq_by_cmp_equiv}
use Rattle.std.specs.Ordering.{nat_cmp}
use Rattle.std.specs.FinMap.{FinMap, contains_key, entries, get}
use Rattle.keyed.specs.Over.{over}
use Rattle.keyed.specs.Table.{at_slot, flat, row_at}
use Rattle.ns_types.specs.declared.evaluation.Evaluation.{Evaluation}
use Rattle.ns_types.specs.State.Names.{Name, Key, has_key, same_key, same_name, same_number}
use Rattle.ns_types.specs.State.Rows.{World, Tenant}
use Rattle.ns_types.specs.Settling.Releases.{woken}
use Rattle.ns_types.specs.Settling.Settle.{changes_allocation, changes_evaluation, is_touched, number_releases, pending, settle, stamp, stamp_tenant}
use Rattle.ns_types.specs.Settling.Settle.{stamped, unblocked_in, wake}
use Rattle.ns_types.specs.Steps.{greatest, is_past_bound, is_pool_past_bound, is_tenant_past_bound}
use Rattle.ns_types.specs.State.Tables.{map_rows, any_row}
use Rattle.ns_types.proofs.Lists.{any_alike, each, left_none, not_both, right_none}
use Rattle.ns_types.proofs.Named.{names, numbers, one_name, one_number}
use Rattle.ns_types.proofs.Settling.{kept_evaluation}
use Rattle.ns_types.proofs.TableRows.{any_row-alike, entries_empty}
use Rattle.ns_types.proofs.Tables.{each_row, none_of_any}
use Rattle.ns_change.specs.declared.change.Change.{Change}
use Rattle.ns_change.specs.declared.change.TenantChange.{TenantChange}
use Rattle.ns_change.specs.Changed.{changed, changed_tenant, perhaps, unchanged}
use Rattle.ns_change.proofs.Opening.{unchanged_is}
use Rattle.ns_change.proofs.Seen.{tenant_after}
use Rattle.ns_counters.proofs.Each.{split_last}
use Rattle.ns_counters.specs.Bounds.{is_at_bound, is_number_past, is_waking, passes_in, shows_awake, tenant_passes, tenants_pass}
use Rattle.ns_release.specs.Released.{does_wake, released_quotas, released_rooms}
use Rattle.ns_counters.specs.Bounds.{pools_pass, quotas_pass, touches_asleep, waking_passes, waking_passes_in}
use Rattle.ns_release.specs.Shown.{changes_job_row}
use Rattle.keyed.proofs.Over.{any_row-before, any_row-over}
use Rattle.ns_counters.proofs.Bounded.{any_named, any_row-either, any_row-mapped, any_with, no_slot, pools_within, quotas_within}
use Rattle.ns_release.proofs.Rooms.{any_and, any_row-at, any_swap}
use Rattle.ns_types.proofs.Queue.{queues_keep}
use Rattle.ns_release.proofs.Model.{woken_is}
use Rattle.ns_release.proofs.Touched.{allocations_idle, jobs_touched}
use Rattle.ns_release.proofs.Woken.{woken_tests}
use Rattle.std.proofs.Math.Bool.{and_comm, and_assoc, and-false, or-false}
use Rattle.ns_types.proofs.Tests.{and_turned}
use Rattle.ns_change.proofs.Listed.{any_filter}

-- ---- one namespace

module _ (ns : Name) (keys : List Key) where
  -- a test of the rows at those keys
  at_keys : {X : Type 0} (r : ℕ → X → Bool) (m : FinMap nat_cmp X) → any_row (λ n x. has_key keys (ns, n) && r n x) m
      ≡ list_any (λ k. same_name ns k.0 && option_map_or (r k.1) (get m k.1) false) keys
  unfolding any_row
  at_keys {X = X} r m = any_alike _ (λ (e : ℕ × X). list_any (λ k. same_key (ns, e.0) k && r e.0 e.1) keys) (entries m)
      (each _ (λ e. any_with (same_key (ns, e.0)) (r e.0 e.1) keys) (entries m))
      ∙ any_swap (λ (e : ℕ × X) k. same_key (ns, e.0) k && r e.0 e.1) (entries m) keys ∙ any_alike _ _ keys (each _ one keys)
    where
      one : (k : Key) → list_any (λ (e : ℕ × X). same_key (ns, e.0) k && r e.0 e.1) (entries m) ≡ (same_name ns k.0 && option_map_or (r k.1) (get m k.1) false)
      one k = any_alike _ (λ (e : ℕ × X). same_name ns k.0 && (same_number k.1 e.0 && r e.0 e.1)) (entries m)
          (each _ (λ e. and_assoc (same_name ns k.0) (same_number e.0 k.1) (r e.0 e.1) ∙
          ap (λ b. same_name ns k.0 && (b && r e.0 e.1)) ((eq_by_cmp_equiv numbers).symm e.0 k.1)) (entries m))
          ∙ sym (any_and (same_name ns k.0) (λ (e : ℕ × X). same_number k.1 e.0 && r e.0 e.1) (entries m))
          ∙ ap (λ b. same_name ns k.0 && b) (any_row-at numbers one_number k.1 r m)

  module _ (t : Tenant) (x : TenantChange) where
    abbrev awake : Tenant
    awake = unblocked_in keys ns (changed_tenant t x)

    abbrev wakes_shown : Key → Bool
    wakes_shown k = same_name ns k.0 && shows_awake t k.1 (get (over t.evaluations x.evaluations) k.1)

    abbrev sleeps_shown : ℕ → Evaluation → Bool
    sleeps_shown n e = not (has_key keys (ns, n)) && changes_evaluation t n e

    evaluations_touched : any_row (changes_evaluation t) awake.evaluations
        ≡ (list_any wakes_shown keys || list_any (at_slot (λ e. sleeps_shown e.0 e.1)) (entries x.evaluations))
    evaluations_touched = any_row-mapped (changes_evaluation t) (λ n e. if has_key keys (ns, n) then pending e else e) (over t.evaluations x.evaluations)
        ∙ any_row-alike numbers one_number _ (λ n e. (has_key keys (ns, n) && changes_evaluation t n (pending e)) || sleeps_shown n e)
        (over t.evaluations x.evaluations) (λ n e _. by n e (has_key keys (ns, n)))
        ∙ any_row-either (λ n e. has_key keys (ns, n) && changes_evaluation t n (pending e)) sleeps_shown (over t.evaluations x.evaluations)
        ∙ (λ i. at_keys (λ n e. changes_evaluation t n (pending e)) (over t.evaluations x.evaluations) i
        || any_row-over numbers one_number sleeps_shown t.evaluations x.evaluations idle i)
      where
        by : (n : ℕ) (e : Evaluation) (b : Bool) → changes_evaluation t n (if b then pending e else e)
            ≡ ((b && changes_evaluation t n (pending e)) || (not b && changes_evaluation t n e))
        by n e true = sym (or-false _)
        by n e false = refl

        idle : (n : ℕ) (e : Evaluation) → get t.evaluations n ≡ Some e → contains_key x.evaluations n ≡ false → sleeps_shown n e ≡ false
        idle n e is _ = ap (λ b. not (has_key keys (ns, n)) && b) (kept_evaluation t n e is) ∙ and-false (not (has_key keys (ns, n)))

    abbrev sleeps : Bool
    sleeps = list_any (λ e. changes_job_row t e.0 e.1) (entries x.jobs) || list_any (at_slot (λ e. sleeps_shown e.0 e.1)) (entries x.evaluations)
        || list_any (at_slot (λ e. changes_allocation t e.0 e.1)) (entries x.allocations)

    awake_touched : is_touched t awake ≡ (sleeps || list_any wakes_shown keys)
    awake_touched = (λ i. jobs_touched t x i || evaluations_touched i
        || any_row-over numbers one_number (changes_allocation t) t.allocations x.allocations (allocations_idle t x) i)
        ∙ by (list_any (λ e. changes_job_row t e.0 e.1) (entries x.jobs)) (list_any wakes_shown keys) _ _
      where
        by : (j k s a : Bool) → ((j || (k || s)) || a) ≡ (((j || s) || a) || k)
        by true k s a = refl
        by false true true a = refl
        by false true false true = refl
        by false true false false = refl
        by false false s a = sym (or-false (s || a))

-- ---- past the bound

module _ (t : Tenant) where
  stamped_past : (after : Tenant) → nat_lt greatest after.index ≡ false → is_tenant_past_bound (stamp_tenant (Some t) after)
      ≡ ((nat_lt greatest after.evaluation_number || nat_lt greatest after.allocation_number) || (is_at_bound t.index && is_touched t after))
  unfolding stamp_tenant
  stamped_past after within = by (is_touched t after)
    where
      true_by : (i e a : Bool) → ((i || e) || a) ≡ ((e || a) || (i && true))
      true_by true true a = refl
      true_by true false true = refl
      true_by true false false = refl
      true_by false true a = refl
      true_by false false true = refl
      true_by false false false = refl

      false_by : (i n e a : Bool) → n ≡ false → ((n || e) || a) ≡ ((e || a) || (i && false))
      false_by i true e a is = not_both refl is
      false_by true false true a is = refl
      false_by true false false true is = refl
      false_by true false false false is = refl
      false_by false false true a is = refl
      false_by false false false true is = refl
      false_by false false false false is = refl

      by : (b : Bool) → is_tenant_past_bound (if b then stamped (t.index + 1) t after else after)
          ≡ ((nat_lt greatest after.evaluation_number || nat_lt greatest after.allocation_number) || (is_at_bound t.index && b))
      by true = true_by (is_at_bound t.index) (nat_lt greatest after.evaluation_number) (nat_lt greatest after.allocation_number)
      by false = false_by (is_at_bound t.index) _ (nat_lt greatest after.evaluation_number) (nat_lt greatest after.allocation_number) within

module _ (ns : Name) (keys : List Key) (t : Tenant) (within : is_tenant_past_bound t ≡ false) where
  abbrev change_passes : Option TenantChange → Bool
  change_passes x = option_map_or (λ x. is_number_past x || (is_at_bound t.index && sleeps ns keys t x)) x false

  abbrev shown_after : Option TenantChange → Key → Bool
  shown_after x k = shows_awake t k.1 (get (perhaps changed_tenant x t).evaluations k.1)

  abbrev waking_in : Option TenantChange → Bool
  waking_in x = list_any (λ k. same_name ns k.0 && shown_after x k) keys

  no_entry : sleeps ns keys t (unchanged t) ≡ false
  no_entry = λ i. list_any (λ e. changes_job_row t e.0 e.1) (entries_empty names one_name i)
      || list_any (at_slot (λ e. sleeps_shown ns keys t (unchanged t) e.0 e.1)) (entries_empty numbers one_number i)
      || list_any (at_slot (λ e. changes_allocation t e.0 e.1)) (entries_empty numbers one_number i)

  nothing_touched : is_touched t (unblocked_in keys ns t) ≡ waking_in None
  nothing_touched = ap (λ u. is_touched t (unblocked_in keys ns u)) (sym (unchanged_is t)) ∙ awake_touched ns keys t (unchanged t)
      ∙ (λ i. no_entry i || list_any (λ k. same_name ns k.0 && shows_awake t k.1 (get (unchanged_is t i).evaluations k.1)) keys)

  past_after : (x : Option TenantChange) → is_tenant_past_bound (stamp_tenant (Some t) (unblocked_in keys ns (perhaps changed_tenant x t)))
      ≡ (change_passes x || (is_at_bound t.index && waking_in x))
  past_after None = stamped_past t (unblocked_in keys ns t) (left_none _ _ (left_none _ _ within))
      ∙ (λ i. (right_none (nat_lt greatest t.index) _ (left_none _ _ within) i
      || right_none (nat_lt greatest t.index || nat_lt greatest t.evaluation_number) _ within i)
      || (is_at_bound t.index && nothing_touched i))
  past_after (Some x) = stamped_past t (awake ns keys t x) (left_none _ _ (left_none _ _ within))
      ∙ ap (λ b. is_number_past x || (is_at_bound t.index && b)) (awake_touched ns keys t x)
      ∙ split_last (is_number_past x) (is_at_bound t.index) (sleeps ns keys t x) (waking_in (Some x))

-- ---- all namespaces

module _ (w : World) (c : Change) where
  abbrev keys_now : List Key
  keys_now = woken w (changed w c)

  tenants_now : (settle w (changed w c)).tenants ≡ map_rows (λ ns t. stamp_tenant (get w.tenants ns) t) (map_rows (unblocked_in keys_now)
      (map_rows (λ ns t. perhaps changed_tenant (row_at c.tenants ns) t) w.tenants))
  unfolding settle stamp number_releases wake changed
  tenants_now = ap (map_rows (λ ns t. stamp_tenant (get w.tenants ns) t)) (queues_keep (λ w. w.tenants) (λ w keys. refl) (woken w (changed w c)) _)

  keys_are : keys_now ≡ filter (does_wake w c) w.blocked
  keys_are = woken_is w c ∙ sym (woken_tests w c (released_rooms w c) (released_quotas w c))

  waking_is : (key : Key) → has_key keys_now key ≡ is_waking w c key
  waking_is key = ap (λ keys. has_key keys key) keys_are ∙ any_filter (same_key key) (does_wake w c) w.blocked ∙
      any_alike _ (λ k. same_key key k && does_wake w c k) w.blocked (each _ (λ k. and_comm (does_wake w c k) (same_key key k)) w.blocked)

  asleep_is : (ns : Name) (t : Tenant) (x : TenantChange) → sleeps ns keys_now t x ≡ touches_asleep w c ns t x
  asleep_is ns t x = λ i. list_any (λ e. changes_job_row t e.0 e.1) (entries x.jobs)
      || list_any (at_slot (λ e. not (waking_is (ns, e.0) i) && changes_evaluation t e.0 e.1)) (entries x.evaluations)
      || list_any (at_slot (λ e. changes_allocation t e.0 e.1)) (entries x.allocations)

  abbrev by_change : Name → Tenant → Bool
  by_change ns t = option_map_or (λ x. passes_in w c ns x t) (row_at c.tenants ns) false

  abbrev shown_at : Key → Name → Tenant → Bool
  shown_at k ns t = is_at_bound t.index && shows_awake t k.1 (get (perhaps changed_tenant (row_at c.tenants ns) t).evaluations k.1)

  abbrev by_waking : Name → Tenant → Bool
  by_waking ns t = list_any (λ k. same_name ns k.0 && shown_at k ns t) keys_now

  one_past : (ns : Name) (t : Tenant) → is_tenant_past_bound t ≡ false →
      is_tenant_past_bound (stamp_tenant (Some t) (unblocked_in keys_now ns (perhaps changed_tenant (row_at c.tenants ns) t)))
      ≡ (by_change ns t || by_waking ns t)
  one_past ns t within = past_after ns keys_now t within (row_at c.tenants ns) ∙ (λ i. changes (row_at c.tenants ns) i || wakes i)
    where
      changes : (x : Option TenantChange) → change_passes ns keys_now t within x ≡ option_map_or (λ x. passes_in w c ns x t) x false
      changes None = refl
      changes (Some x) = ap (λ b. is_number_past x || (is_at_bound t.index && b)) (asleep_is ns t x)

      wakes : (is_at_bound t.index && waking_in ns keys_now t within (row_at c.tenants ns)) ≡ by_waking ns t
      wakes = any_and (is_at_bound t.index) (λ k. same_name ns k.0 && shown_after ns keys_now t within (row_at c.tenants ns) k) keys_now ∙
          any_alike _ (λ k. same_name ns k.0 && shown_at k ns t) keys_now (each _ (λ k. and_turned (is_at_bound t.index) (same_name ns k.0) _) keys_now)

  changes_pass : any_row by_change w.tenants ≡ list_any (tenant_passes w c) (entries c.tenants)
  changes_pass = any_row-before names one_name by_change w.tenants c.tenants
      (λ ns t at out. ap (λ x. option_map_or (λ x. passes_in w c ns x t) x false) (no_slot (get c.tenants ns) out))
      ∙ any_alike _ (tenant_passes w c) (entries c.tenants) (each_row names one_name _ c.tenants
      (λ ns x at. ap (λ r. option_map_or (λ t. option_map_or (λ x. passes_in w c ns x t) (flat r) false) (get w.tenants ns) false) at ∙
      by ns x (get w.tenants ns)))
    where
      by : (ns : Name) (x : Option TenantChange) (t : Option Tenant) → option_map_or (λ t. option_map_or (λ x. passes_in w c ns x t) x false) t false
          ≡ option_map_or (λ x. option_map_or (passes_in w c ns x) t false) x false
      by ns None None = refl
      by ns None (Some t) = refl
      by ns (Some x) None = refl
      by ns (Some x) (Some t) = refl

  wakings_pass : any_row by_waking w.tenants ≡ list_any (waking_passes w c) w.blocked
  wakings_pass = any_named (λ k. k.0) shown_at w.tenants keys_now
      ∙ ap (list_any (λ k. option_map_or (shown_at k k.0) (get w.tenants k.0) false)) keys_are
      ∙ any_filter (λ k. option_map_or (shown_at k k.0) (get w.tenants k.0) false) (does_wake w c) w.blocked
      ∙ any_alike _ (waking_passes w c) w.blocked (each _ (λ k. by k (get w.tenants k.0) refl) w.blocked)
    where
      by : (k : Key) (t : Option Tenant) → get w.tenants k.0 ≡ t → (does_wake w c k && option_map_or (shown_at k k.0) t false)
          ≡ option_map_or (waking_passes_in w c k) t false
      by k None is = and-false (does_wake w c k)
      by k (Some t) is = and_turned (does_wake w c k) (is_at_bound t.index) _ ∙ ap (λ row. is_at_bound t.index && (does_wake w c k && shows_awake t k.1 row))
          (sym (ap (option_and_then (λ t. get t.evaluations k.1)) (tenant_after w c k.0 ∙ ap (option_map (perhaps changed_tenant (row_at c.tenants k.0))) is)))

  pub tenants_within : any_row (λ _ t. is_tenant_past_bound t) w.tenants ≡ false →
      any_row (λ _ t. is_tenant_past_bound t) (settle w (changed w c)).tenants ≡ tenants_pass w c
  tenants_within within = ap (any_row (λ _ t. is_tenant_past_bound t)) tenants_now
      ∙ any_row-mapped (λ _ t. is_tenant_past_bound t) (λ ns t. stamp_tenant (get w.tenants ns) t) _
      ∙ any_row-mapped (λ ns t. is_tenant_past_bound (stamp_tenant (get w.tenants ns) t)) (unblocked_in keys_now) _
      ∙ any_row-mapped (λ ns t. is_tenant_past_bound (stamp_tenant (get w.tenants ns) (unblocked_in keys_now ns t)))
      (λ ns t. perhaps changed_tenant (row_at c.tenants ns) t) w.tenants
      ∙ any_row-alike names one_name _ (λ ns t. by_change ns t || by_waking ns t) w.tenants
      (λ ns t at. ap (λ o. is_tenant_past_bound (stamp_tenant o (unblocked_in keys_now ns (perhaps changed_tenant (row_at c.tenants ns) t)))) at ∙
      one_past ns t (none_of_any one_name (λ _ t. is_tenant_past_bound t) w.tenants ns t within at))
      ∙ any_row-either by_change by_waking w.tenants ∙ (λ i. changes_pass i || wakings_pass i)

-- ---- all counters

pub past_bound_is : (w : World) (c : Change) → is_past_bound w ≡ false →
    is_past_bound (settle w (changed w c)) ≡ (tenants_pass w c || pools_pass w c || quotas_pass w c)
unfolding is_past_bound
past_bound_is w c within = λ i. tenants_within w c (left_none _ _ (left_none _ _ within)) i
    || pools_within w c (right_none (any_row (λ _ t. is_tenant_past_bound t) w.tenants) _ (left_none _ _ within)) i
    || quotas_within w c (right_none (any_row (λ _ t. is_tenant_past_bound t) w.tenants || any_row (λ _ p. is_pool_past_bound p) w.pools) _ within) i

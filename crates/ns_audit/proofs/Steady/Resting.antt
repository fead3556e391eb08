-- What every step does at its end keeps a world orderly.
use Rattle.std.specs.Prelude.{◌≡◌, ℕ, ◌+◌, Bool, true, false, cond, not, List, [], ◌∷◌, Option, Some, None, ◌||◌, filter, fold, option_map}
use Rattle.std.proofs.Common.{refl, sym, ap, subst, ◌∙◌}
use Rattle.std.specs.FinMap.{get}
use Rattle.ns_types.specs.declared.allocation.Allocation.{Allocation}
use Rattle.ns_types.specs.declared.evaluation.Evaluation.{Evaluation}
use Rattle.ns_types.specs.declared.evaluation.Status.TheVariants as Status
use Rattle.ns_types.specs.declared.event.Event.{Event}
use Rattle.ns_types.specs.State.Names.{Name, Key, ByNumber, has_key}
use Rattle.ns_types.specs.Working.Queue.{queue}
use Rattle.ns_types.specs.Settling.Releases.{woken}
use Rattle.ns_types.specs.State.Rows.{World, Tenant, is_open, is_live}
use Rattle.ns_types.specs.Settling.Settle.{pending, unblocked_in, wake, number_releases, is_touched, changes_evaluation, changes_allocation, created_at}
use Rattle.ns_types.specs.Settling.Settle.{stamped_evaluation, stamped_allocation, events_of, stamped, stamp_tenant, stamp, settle}
use Rattle.ns_types.specs.State.Lists.{last}
use Rattle.std.specs.Prelude.{◌++◌}
use Rattle.ns_types.specs.Access.Sharing.{permits}
use Rattle.ns_types.specs.State.Tables.{map_rows}
use Rattle.ns_types.proofs.Named.{names, one_name, numbers as numbers_, one_number, first_of_both, same_key_refl}
use Rattle.ns_types.proofs.Tables.{get-map_rows}
use Rattle.ns_types.proofs.Tests.{same_Some, is_no}
use Rattle.std.proofs.lemmas.Bool.{or_right}
use Rattle.ns_audit.specs.Orderly.{IsAllowedTo, IsPendingIn, IsOrderlyTenant, IsReadyIn, IsBlockedIn, IsListed, IsOrderly}
use Rattle.ns_audit.proofs.Steady.Keeping.{row_of_map, KeepsTenant, keeps_same, has_key_filter, queue_orderly}
use Rattle.ns_types.proofs.Queue.{queue_keeps}

-- ---- worlds with the same namespaces

pub relisted : (w x : World) → x.tenants ≡ w.tenants → (P : Tenant → ℕ → Type 0) (ns : Name) (n : ℕ) → IsListed w P ns n → IsListed x P ns n
relisted w x same P ns n l = record { tenant = l.tenant; is_tenant = ap (λ m. get m ns) same ∙ l.is_tenant; entry = l.entry }

-- with no more entries
pub same_orderly : (w x : World) → x.tenants ≡ w.tenants → ((key : Key) → has_key x.ready key ≡ true → has_key w.ready key ≡ true) →
    ((key : Key) → has_key x.blocked key ≡ true → has_key w.blocked key ≡ true) → IsOrderly w → IsOrderly x
same_orderly w x same ready blocked s = record {
  tenant = λ ns t is. s.tenant ns t (sym (ap (λ m. get m ns) same) ∙ is);
  ready = λ ns n has. relisted w x same IsReadyIn ns n (s.ready ns n (ready (ns, n) has));
  blocked = λ ns n has. relisted w x same IsBlockedIn ns n (s.blocked ns n (blocked (ns, n) has));
}

-- ---- each row of each namespace

-- other evaluations and allocations, row by row
pub mapped : (ns : Name) (ready blocked : ℕ → Bool) (t : Tenant) (f : ℕ → Evaluation → Evaluation) (allocations : ByNumber Allocation) (index : ℕ)
    (events : List Event) → IsOrderlyTenant ns t
    → ((n : ℕ) (e : Evaluation) → get t.evaluations n ≡ Some e → is_open (f n e).status ≡ true → IsAllowedTo t.namespace (f n e).pool (f n e).quota)
    → ((n : ℕ) (e : Evaluation) → e.status ≡ Status.Pending → (f n e).status ≡ Status.Pending)
    → ((n : ℕ) (e : Evaluation) → blocked n ≡ true → e.status ≡ Status.Blocked → (f n e).status ≡ Status.Blocked)
    → ((n : ℕ) (a : Allocation) → get allocations n ≡ Some a → is_live a ≡ true → permits t.namespace a.pool ≡ true)
    → KeepsTenant ns ready blocked t (record t { index = index; evaluations = map_rows f t.evaluations; allocations = allocations; events = events })
mapped ns ready blocked t f allocations index events s allowed pends blocks allocation = record {
  sound = record {
    job = s.job;
    allocation = allocation;
    one_each = s.one_each;
    snapshot = λ n worker kept at has. let k = s.snapshot n worker kept at has in record { namespace = k.namespace; allowed = k.allowed };
    evaluation = λ n e at open_. let y = row_of_map numbers_ one_number f t.evaluations n e at in
        subst (λ e. IsAllowedTo t.namespace e.pool e.quota) y.2 (allowed n y.0 y.1 (ap (λ e. is_open e.status) y.2 ∙ open_));
    held = λ n worker at. still worker.evaluation (s.held n worker at);
    numbers = λ n e at. let y = row_of_map numbers_ one_number f t.evaluations n e at in s.numbers n y.0 y.1;
  };
  ready_kept = λ n has r. record { pending = still n r.pending; free = r.free };
  blocked_kept = λ n has b. record {
    row = f n b.row;
    is_row = get-map_rows numbers_ one_number f t.evaluations n ∙ ap (option_map (f n)) b.is_row;
    is_blocked =
        blocks n b.row has b.is_blocked;
  };
}
  where
    still : (n : ℕ) → IsPendingIn t n → IsPendingIn
        (record t { index = index; evaluations = map_rows f t.evaluations; allocations = allocations; events = events }) n
    still n p = record {
      row = f n p.row;
      is_row = get-map_rows numbers_ one_number f t.evaluations n ∙ ap (option_map (f n)) p.is_row;
      is_pending =
          pends n p.row p.is_pending;
    }

pub map_orderly : (w : World) (f : Name → Tenant → Tenant) → IsOrderly w
    → ((ns : Name) (t : Tenant) → get w.tenants ns ≡ Some t → KeepsTenant ns (λ n. has_key w.ready (ns, n)) (λ n. has_key w.blocked (ns, n)) t (f ns t)) →
    IsOrderly (record w { tenants = map_rows f w.tenants })
map_orderly w f s keeps = record {
  tenant = λ ns t is. let y = row_of_map names one_name f w.tenants ns t is in subst (IsOrderlyTenant ns) y.2 (keeps ns y.0 y.1).sound;
  ready = λ ns n has. let l = s.ready ns n has in
      record {
        tenant = f ns l.tenant;
        is_tenant = get-map_rows names one_name f w.tenants ns ∙ ap (option_map (f ns)) l.is_tenant;
        entry =
            (keeps ns l.tenant l.is_tenant).ready_kept n has l.entry;
      };
  blocked = λ ns n has. let l = s.blocked ns n has in
      record {
        tenant = f ns l.tenant;
        is_tenant = get-map_rows names one_name f w.tenants ns ∙ ap (option_map (f ns)) l.is_tenant;
        entry =
            (keeps ns l.tenant l.is_tenant).blocked_kept n has l.entry;
      };
}

-- ---- indexes

module _ (ns : Name) (ready blocked : ℕ → Bool) (t : Tenant) (s : IsOrderlyTenant ns t) where
  stamped_keeps : (index : ℕ) (old : Tenant) → KeepsTenant ns ready blocked t (stamped index old t)
  stamped_keeps index old = mapped ns ready blocked t (stamped_evaluation index old) (map_rows (stamped_allocation index old) t.allocations) index
      (last 100 (t.events ++ events_of index old t)) s
      (λ n e at. row_allowed n e (s.evaluation n e at)) (λ n e p. row_status n e ∙ p) (λ n e _ b. row_status n e ∙ b)
      (λ n a at. let y = row_of_map numbers_ one_number (stamped_allocation index old) t.allocations n a at in
      subst (λ a. is_live a ≡ true → permits t.namespace a.pool ≡ true) y.2 (row_live n y.0 (s.allocation n y.0 y.1)))
    where
      row_status : (n : ℕ) (e : Evaluation) → (stamped_evaluation index old n e).status ≡ e.status
      row_status n e = elim (changes_evaluation old n e) as
          (λ b. (cond b (record e { create_index = created_at index (get old.evaluations n) (λ o. o.create_index); modify_index = index }) e).status ≡ e.status)
          [ true ↦ refl | false ↦ refl ]

      row_allowed : (n : ℕ) (e : Evaluation) → (is_open e.status ≡ true → IsAllowedTo t.namespace e.pool e.quota) →
          is_open (stamped_evaluation index old n e).status ≡ true →
          IsAllowedTo t.namespace (stamped_evaluation index old n e).pool (stamped_evaluation index old n e).quota
      row_allowed n e h = elim (changes_evaluation old n e) as
          (λ b. is_open (cond b (record e { create_index = created_at index (get old.evaluations n) (λ o. o.create_index); modify_index = index })
          e).status ≡ true
          → IsAllowedTo t.namespace (cond b (record e { create_index = created_at index (get old.evaluations n) (λ o. o.create_index); modify_index = index })
          e).pool (cond b (record e { create_index = created_at index (get old.evaluations n) (λ o. o.create_index); modify_index = index }) e).quota)
          [ true ↦ h | false ↦ h ]

      row_live : (n : ℕ) (a : Allocation) → (is_live a ≡ true → permits t.namespace a.pool ≡ true) → is_live (stamped_allocation index old n a) ≡ true →
          permits t.namespace (stamped_allocation index old n a).pool ≡ true
      row_live n a h = elim (changes_allocation old n a) as
          (λ b. is_live (cond b (record a { create_index = created_at index (get old.allocations n) (λ o. o.create_index); modify_index = index }) a) ≡ true
          → permits t.namespace (cond b (record a { create_index = created_at index (get old.allocations n) (λ o. o.create_index); modify_index = index })
          a).pool ≡ true) [ true ↦ h | false ↦ h ]

  stamp_keeps : (old : Option Tenant) → KeepsTenant ns ready blocked t (stamp_tenant old t)
  unfolding stamp_tenant
  stamp_keeps None = keeps_same ns ready blocked t s
  stamp_keeps (Some old) = elim (is_touched old t) as (λ b. KeepsTenant ns ready blocked t (cond b (stamped (old.index + 1) old t) t))
      [ true ↦ stamped_keeps (old.index + 1) old | false ↦ keeps_same ns ready blocked t s ]

stamp_orderly : (w x : World) → IsOrderly x → IsOrderly (stamp w x)
unfolding stamp
stamp_orderly w x s = map_orderly x (λ ns t. stamp_tenant (get w.tenants ns) t) s (λ ns t is. stamp_keeps ns _ _ t (s.tenant ns t is) (get w.tenants ns))

number_releases_orderly : (w w' x : World) → IsOrderly x → IsOrderly (number_releases w w' x)
unfolding number_releases
number_releases_orderly w w' x s = same_orderly x (number_releases w w' x) refl (λ key has. has) (λ key has. has) s

-- ---- wakes

pub queues_orderly : (keys : List Key) (w : World) → IsOrderly w → ((ns : Name) (n : ℕ) → has_key keys (ns, n) ≡ true → IsListed w IsPendingIn ns n) →
    IsOrderly (fold queue w keys)
queues_orderly [] w s pend = s
queues_orderly (key ∷ keys) w s pend =
    let l = pend key.0 key.1 (ap (λ b. b || has_key keys key) (same_key_refl key)) in
    queues_orderly keys (queue w key) (queue_orderly w key.0 key.1 l.tenant s l.is_tenant l.entry)
    (λ ns n has. relisted w (queue w key) (queue_keeps (λ x. x.tenants) (λ x ks. refl) w key) IsPendingIn ns n (pend ns n (or_right _ _ has)))

wake_orderly : (keys : List Key) (w : World) → ((key : Key) → has_key keys key ≡ true → has_key w.blocked key ≡ true) → IsOrderly w → IsOrderly (wake keys w)
unfolding wake
wake_orderly keys w inside s = queues_orderly keys (record less { tenants = map_rows (unblocked_in keys) w.tenants })
    (map_orderly less (unblocked_in keys) less_orderly keeps) pend
  where
    less : World
    less = record w { blocked = filter (λ key. not (has_key keys key)) w.blocked }

    less_orderly : IsOrderly less
    less_orderly = same_orderly w less refl (λ key has. has) (λ key has. (has_key_filter (λ key. not (has_key keys key)) w.blocked key has).0) s

    row : Name → ℕ → Evaluation → Evaluation
    row ns n e = cond (has_key keys (ns, n)) (pending e) e

    -- what is woken was blocked, and so open
    was_open : (ns : Name) (t : Tenant) → get w.tenants ns ≡ Some t → (n : ℕ) (e : Evaluation) → get t.evaluations n ≡ Some e → has_key keys (ns, n) ≡ true →
        is_open e.status ≡ true
    was_open ns t is n e at has =
        let l = s.blocked ns n (inside (ns, n) has) in
        ap (λ e. is_open e.status) (same_Some _ _ (sym at ∙ ap (λ (t : Tenant). get t.evaluations n) (same_Some _ _ (sym is ∙ l.is_tenant)) ∙ l.entry.is_row)) ∙
        ap is_open l.entry.is_blocked

    allowed : (ns : Name) (t : Tenant) → get w.tenants ns ≡ Some t → (n : ℕ) (e : Evaluation) → get t.evaluations n ≡ Some e →
        is_open (row ns n e).status ≡ true → IsAllowedTo t.namespace (row ns n e).pool (row ns n e).quota
    allowed ns t is n e at = by (has_key keys (ns, n)) refl
      where
        by : (b : Bool) → has_key keys (ns, n) ≡ b → is_open (cond b (pending e) e).status ≡ true →
            IsAllowedTo t.namespace (cond b (pending e) e).pool (cond b (pending e) e).quota
        by true has _ = (s.tenant ns t is).evaluation n e at (was_open ns t is n e at has)
        by false _ o = (s.tenant ns t is).evaluation n e at o

    pends : (ns : Name) (n : ℕ) (e : Evaluation) → e.status ≡ Status.Pending → (row ns n e).status ≡ Status.Pending
    pends ns n e p = elim (has_key keys (ns, n)) as (λ b. (cond b (pending e) e).status ≡ Status.Pending) [ true ↦ refl | false ↦ p ]

    keeps : (ns : Name) (t : Tenant) → get w.tenants ns ≡ Some t → KeepsTenant ns (λ n. has_key less.ready (ns, n)) (λ n. has_key less.blocked (ns, n)) t
        (unblocked_in keys ns t)
    keeps ns t is = mapped ns _ (λ n. has_key less.blocked (ns, n)) t (row ns) t.allocations t.index t.events (s.tenant ns t is) (allowed ns t is) (pends ns)
        (λ n e listed b. ap (λ c. (cond c (pending e) e).status) (is_no _ (has_key_filter (λ key. not (has_key keys key)) w.blocked (ns, n) listed).1) ∙ b)
        (s.tenant ns t is).allocation

    pend : (ns : Name) (n : ℕ) → has_key keys (ns, n) ≡ true → IsListed (record less { tenants = map_rows (unblocked_in keys) w.tenants }) IsPendingIn ns n
    pend ns n has =
        let l = s.blocked ns n (inside (ns, n) has) in record {
          tenant = unblocked_in keys ns l.tenant;
          is_tenant = get-map_rows names one_name (unblocked_in keys) w.tenants ns ∙ ap (option_map (unblocked_in keys ns)) l.is_tenant;
          entry = record {
            row = row ns n l.entry.row;
            is_row = get-map_rows numbers_ one_number (row ns) l.tenant.evaluations n ∙ ap (option_map (row ns n)) l.entry.is_row;
            is_pending = ap (λ b. (cond b (pending l.entry.row) l.entry.row).status) has;
          };
        }

pub woken_of_blocked : (w w' : World) (key : Key) → has_key (woken w w') key ≡ true → has_key w'.blocked key ≡ true
unfolding woken
woken_of_blocked w w' key has = first_of_both _ _ (has_key_filter _ w.blocked key has).1

pub settle_orderly : (w w' : World) → IsOrderly w' → IsOrderly (settle w w')
unfolding settle
settle_orderly w w' s = stamp_orderly w _ (number_releases_orderly w w' _ (wake_orderly (woken w w') w' (woken_of_blocked w w') s))

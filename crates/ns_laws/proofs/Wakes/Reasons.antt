-- Why an evaluation wakes, and what becomes of it.
use Rattle.std.specs.Prelude.{
  ◌≡◌,
  ◌≢◌,
  ℕ,
  ◌+◌,
  Bool,
  true,
  false,
  cond,
  not,
  ◌&&◌,
  ◌||◌,
  Decides,
  List,
  [],
  ◌∷◌,
  ◌++◌,
  Option,
  Some,
  None,
  filter,
  fold,
  option_map,
}
use Rattle.std.proofs.Common.{◌⊎◌, inl, inr, refl, sym, ap, subst, ◌∙◌}
use Rattle.std.proofs.lemmas.Bool.{or_left, or_right}
use Rattle.std.proofs.lemmas.List.Folds.{list_any-append}
use Rattle.std.specs.Cmp.{tied_itself}
use Rattle.std.specs.FinMap.{get, entries}
use Rattle.std.specs.List.{list_any}
use Rattle.std.specs.Option.{option_map_or, option_and_then}
use Rattle.std.specs.Ordering.{is_eq}
use Rattle.ns_types.specs.declared.allocation.Allocation.{Allocation}
use Rattle.ns_types.specs.declared.evaluation.Evaluation.{Evaluation}
use Rattle.ns_types.specs.declared.evaluation.Status.{Status}
use Rattle.ns_types.specs.declared.node.Class.{Class}
use Rattle.ns_types.specs.declared.node.Node.{Node}
use Rattle.ns_types.specs.declared.records.Namespace.{Namespace}
use Rattle.ns_types.specs.declared.step.Step.{Step}
use Rattle.ns_types.specs.Settling.Releases.{same_offer, ends, is_on, counts_in, changes_limits}
use Rattle.ns_types.specs.Settling.Releases.{gives_room, released_classes, releases_quota, can_use, wakes_by, released_between}
use Rattle.ns_types.specs.Settling.Releases.{wakes, woken}
use Rattle.ns_types.specs.Settling.Settle.{after_quota_release, changes_allocation, created_at, is_touched, number_releases, pending}
use Rattle.ns_types.specs.Settling.Settle.{settle, stamp, stamp_tenant, stamped, stamped_allocation, stamped_evaluation, unblocked_in, wake, woken_row}
use Rattle.ns_types.specs.State.Lists.{Each}
use Rattle.ns_types.specs.State.Names.{Key, Name, has_class, has_key, same_class, same_key, same_name}
use Rattle.ns_types.specs.State.Resources.{limits_in, same_limits}
use Rattle.ns_types.specs.State.Rows.{State, World, Tenant, PoolRows, QuotaRows, allocation_at, class_of, evaluation_at, is_free, is_live, node_at}
use Rattle.ns_types.specs.State.Tables.{any_row, map_rows}
use Rattle.ns_types.specs.Working.Queue.{is_busy, is_of_job, queue}
use Rattle.ns_types.specs.Working.Worker.{Worker}
use Rattle.ns_types.proofs.Alike.{same_limits_refl, same_offer_refl}
use Rattle.ns_types.proofs.Classes.{by_class}
use Rattle.ns_types.proofs.Elements.{any_kept, any_map}
use Rattle.ns_types.proofs.Lists.{left_none, right_none, not_both}
use Rattle.ns_types.proofs.Named.{names, numbers, one_name, one_number, first_of_both, second_of_both, same_key_refl, same_name_is}
use Rattle.ns_types.proofs.Once.{key_is}
use Rattle.ns_types.proofs.Queue.{queue_keeps, queues_keep}
use Rattle.ns_types.proofs.Tables.{get-map_rows}
use Rattle.ns_types.proofs.Tests.{either_of, is_no, is_yes, not_Some, same_Some}
use Rattle.ns_laws.specs.Waking.{MayUse, StillLives}
use Rattle.ns_laws.specs.Woken as law
use Rattle.ns_laws.specs.Woken.{GotQuota, GotRoom, HasRoom, IsTaken, Wakes}
use Rattle.ns_laws.proofs.Effect.Rows.{Does, redated_evaluation}
use Rattle.ns_laws.proofs.Refusal.Reasons.{decides_quota}
use Rattle.ns_laws.proofs.Refusal.Tests.{Row, decides_any, decides_rows}
use Rattle.ns_laws.proofs.Wakes.Queue.{woken_are_called}
use Rattle.ns_audit.proofs.StepLemmas.{IsMade, made}
use Rattle.ns_laws.proofs.Wakes.Steps.{own_blocked}
use Rattle.ns_laws.proofs.Wakes.Waking.{any_filtered, closed_tenant, free_of, open_of, settled_blocked}
use Rattle.ns_laws.proofs.Wakes.Waking.{settled_nodes, settled_quotas, settled_tenants}

-- ---- it is one of those that the step wakes

-- The world x is what a step's own change makes of w. The evaluation is in `blocked` before the step and after its own
-- change, and at the end of the step it is in that list no more.
record WakesIn (w x : World) (key : Key) : Type 0 where
  was : has_key w.blocked key ≡ true
  is_still : has_key x.blocked key ≡ true
  leaves : has_key (settle w x).blocked key ≡ false

module _ (w x : World) (key : Key) (h : WakesIn w x key) where
  is_woken : has_key (woken w x) key ≡ true
  is_woken = is_yes (has_key (woken w x) key) (left (has_key x.blocked key) h.is_still
      (sym (any_kept (same_key key) (λ k. not (has_key (woken w x) k)) (not (has_key (woken w x) key))
      (λ k same. ap (λ k. not (has_key (woken w x) k)) (sym (key_is key k same))) x.blocked)
      ∙ ap (λ keys. has_key keys key) (sym (settled_blocked w x)) ∙ h.leaves))
    where
      left : (a : Bool) → a ≡ true → {b : Bool} → (a && b) ≡ false → b ≡ false
      left true e f = f
      left false e f = not_both e refl

  wakes_it : (e : Evaluation) → evaluation_at w key ≡ Some e → wakes w x e ≡ true
  wakes_it e at = ap (λ o. option_map_or (wakes w x) o false) (sym at)
      ∙ second_of_both (has_key x.blocked key) (option_map_or (wakes w x) (evaluation_at w key) false)
      (second_of_both (has_key w.blocked key) _ (sym (woken_are_called w x key) ∙ is_woken))

-- ---- what ends in the step

-- a row that was stamped is live only if it was so
live_before : (old : Option Tenant) (t : Tenant) (n : ℕ) (b : Allocation) → get (stamp_tenant old t).allocations n ≡ Some b → is_live b ≡ true →
    (a : Allocation) × (get t.allocations n ≡ Some a) × (is_live a ≡ true)
unfolding stamp_tenant
live_before None t n b at live = (b, at, live)
live_before (Some o) t n b at live = by (is_touched o t) at
  where
    row : (a : Allocation) (c : Bool) → is_live (cond c
        (record a { create_index = created_at (o.index + 1) (get o.allocations n) (λ (a : Allocation). a.create_index); modify_index = o.index + 1 }) a)
        ≡ is_live a
    row a true = refl
    row a false = refl

    stamped_row : (r : Option Allocation) → get t.allocations n ≡ r → option_map (stamped_allocation (o.index + 1) o n) r ≡ Some b →
        (a : Allocation) × (get t.allocations n ≡ Some a) × (is_live a ≡ true)
    stamped_row None is e = absurd (not_Some b e)
    stamped_row (Some a) is e = (a, is, sym (row a (changes_allocation o n a)) ∙ ap is_live (same_Some _ b e) ∙ live)

    by : (c : Bool) → get (cond c (stamped (o.index + 1) o t) t).allocations n ≡ Some b → (a : Allocation) × (get t.allocations n ≡ Some a) × (is_live a ≡ true)
    by true at = stamped_row (get t.allocations n) refl (sym (get-map_rows numbers one_number (stamped_allocation (o.index + 1) o) t.allocations n) ∙ at)
    by false at = (b, at, live)

module _ (w x : World) where
  lived : (key : Key) → StillLives (settle w x) key → option_map_or is_live (allocation_at x key) false ≡ true
  lived key (b, (at, live)) = by (get x.tenants key.0) refl
      (sym (ap (option_and_then (λ (t : Tenant). get t.allocations key.1)) (settled_tenants w x key.0)) ∙ at)
    where
      by : (o : Option Tenant) → get x.tenants key.0 ≡ o →
          option_and_then (λ (t : Tenant). get t.allocations key.1) (option_map (closed_tenant w x key.0) o) ≡ Some b →
          option_map_or is_live (option_and_then (λ (t : Tenant). get t.allocations key.1) o) false ≡ true
      by None is at = absurd (not_Some b at)
      by (Some t) is at = let a = live_before (get w.tenants key.0) (unblocked_in (woken w x) key.0 t) key.1 b at live in
          ap (λ o. option_map_or is_live o false) a.1 ∙ a.2

  -- an allocation that passes, and is live before the step and not after it
  record Ended (passes : Namespace → Allocation → Bool) : Type 0 where
    ns : Name
    tenant : Tenant
    number : ℕ
    row : Allocation
    is_tenant : get w.tenants ns ≡ Some tenant
    is_row : get tenant.allocations number ≡ Some row
    live : is_live row ≡ true
    passing : passes tenant.namespace row ≡ true
    over : StillLives (settle w x) (ns, number) → ⊥

  module _ (passes : Namespace → Allocation → Bool) where
    abbrev ends_at : Name → Tenant → ℕ → Allocation → Bool
    ends_at ns t n a = is_live a && passes t.namespace a && not (option_map_or is_live (allocation_at x (ns, n)) false)

    abbrev InTenant : Name → Tenant → Type 0
    InTenant ns t = Row (λ n (a : Allocation). ends_at ns t n a ≡ true) t.allocations

    decides_ends : Decides (any_row (λ ns (t : Tenant). any_row (λ n a. ends_at ns t n a) t.allocations) w.tenants) (Row InTenant w.tenants)
    decides_ends = decides_rows names one_name (λ ns (t : Tenant). any_row (λ n a. ends_at ns t n a) t.allocations) InTenant
        (λ ns t. decides_any numbers one_number (λ n a. ends_at ns t n a) t.allocations) w.tenants

    one_ended : ends w x passes ≡ true → Ended passes
    unfolding ends
    one_ended e =
        let r : Row InTenant w.tenants = decides_ends.0 e in
        let a : Row (λ n (a : Allocation). ends_at r.key r.row n a ≡ true) r.row.allocations = r.holds in
        let all = three (is_live a.row) (passes r.row.namespace a.row) _ a.holds in record {
          ns = r.key;
          tenant = r.row;
          number = a.key;
          row = a.row;
          is_tenant = r.is_row;
          is_row = a.is_row;
          live = all.0;
          passing = all.1;
          over = λ still. not_both (lived (r.key, a.key) still) (is_no _ all.2);
        }
      where
        three : (a b c : Bool) → (a && b && c) ≡ true → (a ≡ true) × (b ≡ true) × (c ≡ true)
        three true true c e = (refl, refl, e)
        three true false c e = not_both e refl
        three false b c e = not_both e refl

-- ---- a class that it may use

same_class_refl : (c : Class) → same_class c c ≡ true
same_class_refl c = ap is_eq (tied_itself by_class c)

none_same : (classes : List Class) (class : Class) → has_class classes class ≡ false → Each (λ other. other ≢ class) classes
none_same [] class e = tt
none_same (other ∷ classes) class e = (
  (λ same. not_both (ap (same_class class) same ∙ same_class_refl class) (left_none (same_class class other) (has_class classes class) e)),
  none_same classes class (right_none (same_class class other) (has_class classes class) e),
)

pub may_use : (e : Evaluation) (class : Class) → can_use e class ≡ true → MayUse e class
may_use e class can = by (either_of e.escapes (not (has_class e.infeasible class)) can)
  where
    by : (e.escapes ≡ true) ⊎ (not (has_class e.infeasible class) ≡ true) → MayUse e class
    by (inl escapes) = inl escapes
    by (inr none) = inr (none_same e.infeasible class (is_no (has_class e.infeasible class) none))

-- ---- a node that got room

module _ (w x : World) (pool : Name) where
  got : (name : Name) (row : Node) (found : Option Node) → node_at w pool name ≡ found →
      (option_map_or (λ old. not (is_free old) || not (same_offer old.offer row.offer)) found true ≡ true) ⊎ (ends w x (is_on pool name) ≡ true) →
      GotRoom w (settle w x) pool name row
  got name row None is why = GotRoom.is_new is
  got name row (Some old) is (inl why) = by (either_of (not (is_free old)) (not (same_offer old.offer row.offer)) why)
    where
      by : (not (is_free old) ≡ true) ⊎ (not (same_offer old.offer row.offer) ≡ true) → GotRoom w (settle w x) pool name row
      by (inl shut) = GotRoom.opened old is (λ opens. not_both (free_of old opens) (is_no (is_free old) shut))
      by (inr other) = GotRoom.offers old is (λ same. not_both (ap (same_offer old.offer) (sym same) ∙ same_offer_refl old.offer)
          (is_no (same_offer old.offer row.offer) other))
  got name row (Some old) is (inr ended) =
      let a : Ended w x (is_on pool name) = one_ended w x (is_on pool name) ended in
      GotRoom.freed (a.ns, a.number) a.row (ap (option_and_then (λ (t : Tenant). get t.allocations a.number)) a.is_tenant ∙ a.is_row, a.live)
      (sym (same_name_is pool a.row.pool (first_of_both (same_name pool a.row.pool) (same_name name a.row.node) a.passing)))
      (sym (same_name_is name a.row.node (second_of_both (same_name pool a.row.pool) (same_name name a.row.node) a.passing)))
      a.over

  abbrev Gives : Evaluation → Name → Node → Type 0
  Gives e name row = (gives_room w x pool name row && can_use e (class_of row)) ≡ true

  -- one of the nodes of released classes that it can use
  one_gives : (e : Evaluation) (p : PoolRows) → list_any (can_use e) (released_classes w x pool p) ≡ true → Row (Gives e) p.nodes
  unfolding released_classes any_row
  one_gives e p any = (decides_any names one_name (λ name row. gives_room w x pool name row && can_use e (class_of row)) p.nodes).0
      (sym (any_map (can_use e) (λ n. class_of n.1) (filter (λ n. gives_room w x pool n.0 n.1) (entries p.nodes))
      ∙ any_filtered (λ n. can_use e (class_of n.1)) (λ n. gives_room w x pool n.0 n.1) (entries p.nodes)) ∙ any)

pub room_in : (w x : World) (e : Evaluation) → wakes w x e ≡ true → e.quota ≡ None → HasRoom w (settle w x) e
unfolding wakes
room_in w x e awake unlimited = by (get x.pools e.pool) refl (ap (wakes_by (released_between w x) e) (sym unlimited) ∙ awake)
  where
    by : (o : Option PoolRows) → get x.pools e.pool ≡ o →
        list_any (can_use e) (option_map_or (released_classes w x e.pool) o []) ≡ true → HasRoom w (settle w x) e
    by None is any = not_both any refl
    by (Some p) is any =
        let r : Row (Gives w x e.pool e) p.nodes = one_gives w x e.pool e p any in
        let gives = first_of_both (gives_room w x e.pool r.key r.row) (can_use e (class_of r.row)) r.holds in record {
          name = r.key;
          row = r.row;
          there = settled_nodes w x e.pool r.key ∙ ap (option_and_then (λ (p : PoolRows). get p.nodes r.key)) is ∙ r.is_row;
          opens = open_of r.row (first_of_both (is_free r.row) _ gives);
          usable = may_use e (class_of r.row) (second_of_both (gives_room w x e.pool r.key r.row) (can_use e (class_of r.row)) r.holds);
          got = got w x e.pool r.key r.row (node_at w e.pool r.key) refl
              (either_of (option_map_or (λ old. not (is_free old) || not (same_offer old.offer r.row.offer)) (node_at w e.pool r.key) true)
              (ends w x (is_on e.pool r.key)) (second_of_both (is_free r.row) _ gives));
        }

-- ---- a quota that got room

pub quota_in : (w x : World) (e : Evaluation) (quota : Name) → wakes w x e ≡ true → e.quota ≡ Some quota → GotQuota w (settle w x) quota
unfolding wakes releases_quota
quota_in w x e quota awake limited = by (get x.quotas quota) refl (ap (wakes_by (released_between w x) e) (sym limited) ∙ awake)
  where
    kept : (b : Bool) (rows : QuotaRows) → (after_quota_release b rows).quota ≡ rows.quota
    kept true rows = refl
    kept false rows = refl

    was : (rows : QuotaRows) → get x.quotas quota ≡ Some rows → (o : Option QuotaRows) → get w.quotas quota ≡ o →
        option_map_or (λ old. changes_limits old rows) o false ≡ true → GotQuota w (settle w x) quota
    was rows is None before e = not_both e refl
    was rows is (Some old) before e =
        let new : QuotaRows = after_quota_release (releases_quota w x quota rows) rows in
        GotQuota.limits old new before (settled_quotas w x quota ∙ ap (option_map (λ q. after_quota_release (releases_quota w x quota q) q)) is)
        (λ same. not_both (ap (same_limits (limits_in old.quota.limits)) (sym (same ∙ ap (λ q. limits_in q.limits) (kept (releases_quota w x quota rows) rows)))
        ∙ same_limits_refl (limits_in old.quota.limits)) (is_no (same_limits (limits_in old.quota.limits) (limits_in rows.quota.limits)) e))

    by_test : (rows : QuotaRows) → get x.quotas quota ≡ Some rows →
        (option_map_or (λ old. changes_limits old rows) (get w.quotas quota) false ≡ true) ⊎ (ends w x (counts_in quota) ≡ true) → GotQuota w (settle w x) quota
    by_test rows is (inl e) = was rows is (get w.quotas quota) refl e
    by_test rows is (inr e) =
        let a : Ended w x (counts_in quota) = one_ended w x (counts_in quota) e in
        GotQuota.freed a.ns a.tenant a.number a.row a.is_tenant ((decides_quota quota a.tenant.namespace).0 a.passing) a.is_row a.live a.over

    by : (o : Option QuotaRows) → get x.quotas quota ≡ o → option_map_or (releases_quota w x quota) o false ≡ true → GotQuota w (settle w x) quota
    by None is e = not_both e refl
    by (Some rows) is e = by_test rows is (either_of (option_map_or (λ old. changes_limits old rows) (get w.quotas quota) false) (ends w x (counts_in quota)) e)

-- ---- in which list it stands

-- the key is ready, or an evaluation of the job is busy
abbrev pub Behind : World → Key → Name → Type 0
Behind y key job = (has_key y.ready key ≡ true) ⊎ (is_busy y key.0 job ≡ true)

module _ (key : Key) (job : Name) where
  abbrev workers_busy : World → Bool
  workers_busy y = option_map_or (λ t. any_row (λ _ (worker : Worker). is_of_job y key.0 job (key.0, worker.evaluation)) t.workers) (get y.tenants key.0) false

  still_behind : (y : World) (more : List Key) → Behind y key job → Behind (record y { ready = y.ready ++ more }) key job
  still_behind y more (inl has) =
      inl (list_any-append (same_key key) y.ready more ∙ or_left (has_key y.ready key) (has_key more key) has)
  still_behind y more (inr busy) = inr (by (either_of (list_any (is_of_job y key.0 job) y.ready) (workers_busy y) busy))
    where
      by : (list_any (is_of_job y key.0 job) y.ready ≡ true) ⊎ (workers_busy y ≡ true) →
          (list_any (is_of_job y key.0 job) (y.ready ++ more) || workers_busy y) ≡ true
      by (inl e) = or_left (list_any (is_of_job y key.0 job) (y.ready ++ more)) (workers_busy y)
          (list_any-append (is_of_job y key.0 job) y.ready more
          ∙ or_left (list_any (is_of_job y key.0 job) y.ready) (list_any (is_of_job y key.0 job) more) e)
      by (inr e) = or_right (list_any (is_of_job y key.0 job) (y.ready ++ more)) (workers_busy y) e

  behind_queue : (y : World) (k : Key) → Behind y key job → Behind (queue y k) key job
  unfolding queue
  behind_queue y k h = by (evaluation_at y k)
    where
      or : (b : Bool) → Behind (cond b y (record y { ready = y.ready ++ k ∷ [] })) key job
      or true = h
      or false = still_behind y (k ∷ []) h

      by : (o : Option Evaluation) → Behind (option_map_or (λ e. cond (is_busy y k.0 e.job) y (record y { ready = y.ready ++ k ∷ [] })) o y) key job
      by None = h
      by (Some e) = or (is_busy y k.0 e.job)

  behind_queues : (keys : List Key) (y : World) → Behind y key job → Behind (fold queue y keys) key job
  behind_queues [] y h = h
  behind_queues (k ∷ keys) y h = behind_queues keys (queue y k) (behind_queue y k h)

pub queued_behind : (y : World) (key : Key) (d : Evaluation) → evaluation_at y key ≡ Some d → Behind (queue y key) key d.job
unfolding queue
queued_behind y key d at = subst (λ o. Behind (option_map_or (λ e. cond (is_busy y key.0 e.job) y (record y { ready = y.ready ++ key ∷ [] })) o y) key d.job)
    (sym at) (by (is_busy y key.0 d.job) refl)
  where
    by : (b : Bool) → is_busy y key.0 d.job ≡ b → Behind (cond b y (record y { ready = y.ready ++ key ∷ [] })) key d.job
    by true busy = inr busy
    by false idle = inl (list_any-append (same_key key) y.ready (key ∷ []) ∙ or_right (has_key y.ready key) (same_key key key || false)
        (or_left (same_key key key) false (same_key_refl key)))

pub all_behind : (key : Key) (d : Evaluation) (keys : List Key) (y : World) → has_key keys key ≡ true → evaluation_at y key ≡ Some d →
    Behind (fold queue y keys) key d.job
all_behind key d [] y has at = not_both has refl
all_behind key d (k ∷ keys) y has at = by (λ later. all_behind key d keys (queue y k) later (queue_keeps (λ y. evaluation_at y key) (λ y keys. refl) y k ∙ at))
    (either_of (same_key key k) (has_key keys key) has)
  where
    by : (has_key keys key ≡ true → Behind (fold queue (queue y k) keys) key d.job) → (same_key key k ≡ true) ⊎ (has_key keys key ≡ true) →
        Behind (fold queue (queue y k) keys) key d.job
    by rest (inl same) = behind_queues key d.job keys (queue y k)
        (subst (λ k. Behind (queue y k) key d.job) (key_is key k same) (queued_behind y key d at))
    by rest (inr later) = rest later

-- ---- the rows at the end of the step

-- an evaluation before the stamp is of the same job, and has the same status
module _ (old : Option Tenant) (t : Tenant) where
  pub record Same (n : ℕ) (d e : Evaluation) : Type 0 where
    pub was : get t.evaluations n ≡ Some d
    pub is : get (stamp_tenant old t).evaluations n ≡ Some e
    pub job : e.job ≡ d.job
    pub status : e.status ≡ d.status

same_stamped : (old : Option Tenant) (t : Tenant) (n : ℕ) (d : Evaluation) → get t.evaluations n ≡ Some d → (e : Evaluation) × Same old t n d e
same_stamped old t n d at = let r = redated_evaluation old t n d at in
    (record d { create_index = r.0; modify_index = r.1 }, record { was = at; is = r.2; job = refl; status = refl })

none_stamped : (old : Option Tenant) (t : Tenant) (n : ℕ) → get t.evaluations n ≡ None → get (stamp_tenant old t).evaluations n ≡ None
unfolding stamp_tenant
none_stamped None t n is = is
none_stamped (Some o) t n is = by (is_touched o t)
  where
    by : (b : Bool) → get (cond b (stamped (o.index + 1) o t) t).evaluations n ≡ None
    by true = get-map_rows numbers one_number (stamped_evaluation (o.index + 1) o) t.evaluations n ∙ ap (option_map (stamped_evaluation (o.index + 1) o n)) is
    by false = is

-- a row at the end was there before the stamp
pub was_stamped : (old : Option Tenant) (t : Tenant) (n : ℕ) (e : Evaluation) → get (stamp_tenant old t).evaluations n ≡ Some e →
    (d : Evaluation) × Same old t n d e
was_stamped old t n e at = by (get t.evaluations n) refl
  where
    by : (o : Option Evaluation) → get t.evaluations n ≡ o → (d : Evaluation) × Same old t n d e
    by None is = absurd (not_Some e (sym (none_stamped old t n is) ∙ at))
    by (Some d) is =
        let s : (e : Evaluation) × Same old t n d e = same_stamped old t n d is in
        (d, subst (Same old t n d) (same_Some s.0 e (sym s.1.is ∙ at)) s.1)

pub stamped_workers : (old : Option Tenant) (t : Tenant) → (stamp_tenant old t).workers ≡ t.workers
unfolding stamp_tenant
stamped_workers None t = refl
stamped_workers (Some o) t = by (is_touched o t)
  where
    by : (b : Bool) → (cond b (stamped (o.index + 1) o t) t).workers ≡ t.workers
    by true = refl
    by false = refl

-- one of the keys that passes
pub some_key : (f : Key → Bool) (keys : List Key) → list_any f keys ≡ true → (key : Key) × (has_key keys key ≡ true) × (f key ≡ true)
some_key f [] e = not_both e refl
some_key f (k ∷ keys) e = by (some_key f keys) (either_of (f k) (list_any f keys) e)
  where
    by : (list_any f keys ≡ true → (key : Key) × (has_key keys key ≡ true) × (f key ≡ true)) → (f k ≡ true) ⊎ (list_any f keys ≡ true) →
        (key : Key) × (has_key (k ∷ keys) key ≡ true) × (f key ≡ true)
    by rest (inl here) = (k, or_left (same_key k k) (has_key keys k) (same_key_refl k), here)
    by rest (inr later) = let r = rest later in (r.0, or_right (same_key r.0 k) (has_key keys r.0) r.1, r.2)

module _ (w x : World) where
  abbrev keys : List Key
  keys = woken w x

  abbrev pub opened : World
  opened = record x { tenants = map_rows (unblocked_in keys) x.tenants; blocked = filter (λ key. not (has_key keys key)) x.blocked }

  abbrev pub waked : World
  waked = fold queue opened keys

  pub settled_ready : (settle w x).ready ≡ waked.ready
  unfolding settle stamp number_releases wake
  settled_ready = refl

  pub settled_rows : (ns : Name) → get (settle w x).tenants ns ≡ option_map (stamp_tenant (get w.tenants ns)) (get waked.tenants ns)
  unfolding settle stamp number_releases wake
  settled_rows ns = get-map_rows names one_name (λ ns t. stamp_tenant (get w.tenants ns) t) waked.tenants ns

  opened_rows : (ns : Name) → get waked.tenants ns ≡ option_map (unblocked_in keys ns) (get x.tenants ns)
  opened_rows ns = ap (λ m. get m ns) (queues_keep (λ y. y.tenants) (λ y keys. refl) keys opened)
      ∙ get-map_rows names one_name (unblocked_in keys) x.tenants ns

  -- a woken row is pending
  pending_row : (key : Key) (d : Evaluation) → has_key keys key ≡ true → evaluation_at waked key ≡ Some d → d.status ≡ Status.Pending
  pending_row key d has at = in_tenant (get x.tenants key.0)
      (sym (ap (option_and_then (λ (t : Tenant). get t.evaluations key.1)) (opened_rows key.0)) ∙ at)
    where
      in_row : (o : Option Evaluation) → option_map (woken_row keys key.0 key.1) o ≡ Some d → d.status ≡ Status.Pending
      in_row None e = absurd (not_Some d e)
      in_row (Some e0) e = ap (λ (e : Evaluation). e.status) (sym (same_Some _ d e)) ∙ ap (λ b. (cond b (pending e0) e0).status) has

      in_tenant : (o : Option Tenant) → option_and_then (λ (t : Tenant). get t.evaluations key.1) (option_map (unblocked_in keys key.0) o) ≡ Some d →
          d.status ≡ Status.Pending
      in_tenant None e = absurd (not_Some d e)
      in_tenant (Some t) e = in_row (get t.evaluations key.1) (sym (get-map_rows numbers one_number (woken_row keys key.0) t.evaluations key.1) ∙ e)

  -- what is there before the stamp is there at the end
  pub there_later : (ns : Name) (n : ℕ) (d : Evaluation) → evaluation_at waked (ns, n) ≡ Some d →
      (e : Evaluation) × (evaluation_at (settle w x) (ns, n) ≡ Some e) × (e.job ≡ d.job)
  there_later ns n d at = by (get waked.tenants ns) refl at
    where
      by : (o : Option Tenant) → get waked.tenants ns ≡ o → option_and_then (λ (t : Tenant). get t.evaluations n) o ≡ Some d →
          (e : Evaluation) × (evaluation_at (settle w x) (ns, n) ≡ Some e) × (e.job ≡ d.job)
      by None is e = absurd (not_Some d e)
      by (Some t) is e =
          let s : (e : Evaluation) × Same (get w.tenants ns) t n d e = same_stamped (get w.tenants ns) t n d e in (
            s.0,
            ap (option_and_then (λ (t : Tenant). get t.evaluations n)) (settled_rows ns ∙ ap (option_map (stamp_tenant (get w.tenants ns))) is) ∙ s.1.is,
            s.1.job,
          )

  pub taken_by : (ns job : Name) → is_busy waked ns job ≡ true → law.IsTaken (settle w x) ns job
  taken_by ns job busy = by (either_of (list_any (is_of_job waked ns job) waked.ready) (workers_busy (ns, 0) job waked) busy)
    where
      of_key : (key : Key) → has_key waked.ready key ≡ true → same_name ns key.0 ≡ true → (o : Option Evaluation) → evaluation_at waked key ≡ o →
          option_map_or (λ e. same_name job e.job) o false ≡ true → law.IsTaken (settle w x) ns job
      of_key key has own None at e = not_both e refl
      of_key key has own (Some d) at e =
          let l = there_later key.0 key.1 d at in
          subst (λ ns. law.IsTaken (settle w x) ns job) (sym (same_name_is ns key.0 own))
          (IsTaken.by_ready key.1 l.0 (ap (λ keys. has_key keys key) settled_ready ∙ has) l.1 (l.2 ∙ sym (same_name_is job d.job e)))

      of_row : (t : Tenant) → get waked.tenants ns ≡ Some t → (number : ℕ) (worker : Worker) → get t.workers number ≡ Some worker → (o : Option Evaluation) →
          get t.evaluations worker.evaluation ≡ o → option_map_or (λ e. same_name job e.job) o false ≡ true → law.IsTaken (settle w x) ns job
      of_row t is number worker has None at e = not_both e refl
      of_row t is number worker has (Some d) at e =
          let s : (e : Evaluation) × Same (get w.tenants ns) t worker.evaluation d e = same_stamped (get w.tenants ns) t worker.evaluation d at in
          IsTaken.by_worker (stamp_tenant (get w.tenants ns) t) number worker s.0 (settled_rows ns ∙ ap (option_map (stamp_tenant (get w.tenants ns))) is)
          (ap (λ m. get m number) (stamped_workers (get w.tenants ns) t) ∙ has) s.1.is (s.1.job ∙ sym (same_name_is job d.job e))

      of_worker : (o : Option Tenant) → get waked.tenants ns ≡ o
          → option_map_or (λ t. any_row (λ _ (worker : Worker). is_of_job waked ns job (ns, worker.evaluation)) t.workers) o false ≡ true →
          law.IsTaken (settle w x) ns job
      of_worker None is e = not_both e refl
      of_worker (Some t) is e =
          let r : Row (λ number (worker : Worker). is_of_job waked ns job (ns, worker.evaluation) ≡ true) t.workers =
          (decides_any numbers one_number (λ _ (worker : Worker). is_of_job waked ns job (ns, worker.evaluation)) t.workers).0 e in
          of_row t is r.key r.row r.is_row (get t.evaluations r.row.evaluation) refl
          (sym (ap (λ o. option_map_or (λ e. same_name job e.job) (option_and_then (λ (t : Tenant). get t.evaluations r.row.evaluation) o) false) is)
          ∙ second_of_both (same_name ns ns) _ r.holds)

      by : (list_any (is_of_job waked ns job) waked.ready ≡ true) ⊎ (workers_busy (ns, 0) job waked ≡ true) → law.IsTaken (settle w x) ns job
      by (inl e) = let k = some_key (is_of_job waked ns job) waked.ready e in
          of_key k.0 k.1 (first_of_both (same_name ns k.0.0) _ k.2) (evaluation_at waked k.0) refl (second_of_both (same_name ns k.0.0) _ k.2)
      by (inr e) = of_worker (get waked.tenants ns) refl e

  ends_behind : (key : Key) (e d : Evaluation) → e.job ≡ d.job → Behind waked key d.job →
      (has_key (settle w x).ready key ≡ true) ⊎ law.IsTaken (settle w x) key.0 e.job
  ends_behind key e d same (inl has) = inl (ap (λ keys. has_key keys key) settled_ready ∙ has)
  ends_behind key e d same (inr busy) = inr (subst (law.IsTaken (settle w x) key.0) (sym same) (taken_by key.0 d.job busy))

pending_in : (w x : World) (key : Key) (e : Evaluation) → WakesIn w x key → evaluation_at (settle w x) key ≡ Some e →
    (e.status ≡ Status.Pending) × ((has_key (settle w x).ready key ≡ true) ⊎ law.IsTaken (settle w x) key.0 e.job)
pending_in w x key e h at = by (get (waked w x).tenants key.0) refl
    (sym (ap (option_and_then (λ (t : Tenant). get t.evaluations key.1)) (settled_rows w x key.0)) ∙ at)
  where
    has : has_key (woken w x) key ≡ true
    has = is_woken w x key h

    by : (o : Option Tenant) → get (waked w x).tenants key.0 ≡ o
        → option_and_then (λ (t : Tenant). get t.evaluations key.1) (option_map (stamp_tenant (get w.tenants key.0)) o) ≡ Some e →
        (e.status ≡ Status.Pending) × ((has_key (settle w x).ready key ≡ true) ⊎ law.IsTaken (settle w x) key.0 e.job)
    by None is f = absurd (not_Some e f)
    by (Some t) is f =
        let s : (d : Evaluation) × Same (get w.tenants key.0) t key.1 d e = was_stamped (get w.tenants key.0) t key.1 e f in
        let there : evaluation_at (waked w x) key ≡ Some s.0 = ap (option_and_then (λ (t : Tenant). get t.evaluations key.1)) is ∙ s.1.was in
        let first : evaluation_at (opened w x) key ≡ Some s.0 =
        sym (queues_keep (λ y. evaluation_at y key) (λ y keys. refl) (woken w x) (opened w x)) ∙ there in (
          s.1.status ∙ pending_row w x key s.0 has there,
          ends_behind w x key e s.0 s.1.job (all_behind key s.0 (woken w x) (opened w x) has first),
        )

-- ---- step by step

module _ (step : Step) (s t : State) (key : Key) (h : Wakes step s t key) where
  m : IsMade step s t h.reply
  m = made step s t h.reply h.made

  abbrev own : World
  own = m.own.world

  ends_so : settle s.world own ≡ t.world
  ends_so = ap (λ (t : State). t.world) m.leads

  wakes_in : WakesIn s.world own key
  wakes_in = record {
    was = h.was;
    is_still = ap (λ keys. has_key keys key) (subst (Does (λ content (y : State). y.world.blocked ≡ s.world.blocked)) m.acts (own_blocked s step h.other))
        ∙ h.was;
    leaves = ap (λ (w : World). has_key w.blocked key) ends_so ∙ h.leaves;
  }

pub woken_had_room : law.WokenHadRoom
woken_had_room step s t key e h at unlimited = subst (λ y. HasRoom s.world y e) (ends_so step s t key h)
    (room_in s.world (own step s t key h) e (wakes_it s.world (own step s t key h) key (wakes_in step s t key h) e at) unlimited)

pub woken_had_quota : law.WokenHadQuota
woken_had_quota step s t key e quota h at limited = subst (λ y. GotQuota s.world y quota) (ends_so step s t key h)
    (quota_in s.world (own step s t key h) e quota (wakes_it s.world (own step s t key h) key (wakes_in step s t key h) e at) limited)

pub woken_is_pending : law.WokenIsPending
woken_is_pending step s t key e h at =
    subst (λ (y : World). (e.status ≡ Status.Pending) × ((has_key y.ready key ≡ true) ⊎ law.IsTaken y key.0 e.job)) (ends_so step s t key h)
    (pending_in s.world (own step s t key h) key e (wakes_in step s t key h) (ap (λ y. evaluation_at y key) (ends_so step s t key h) ∙ at))

-- What a step that wakes nobody has left as it was, and what a follower that is blocked has not missed.
use Rattle.std.specs.Prelude.{◌≡◌, ◌≢◌, ℕ, Bool, true, false, cond, not, ◌&&◌, ◌||◌, List, [], ◌∷◌, Option, Some, None}
use Rattle.std.specs.Prelude.{filter, option_map}
use Rattle.std.proofs.Common.{refl, sym, ap, subst, ◌∙◌, inl, inr}
use Rattle.std.proofs.lemmas.Bool.{or_right}
use Rattle.std.specs.Cmp.Lexicographic.{pointwise}
use Rattle.std.specs.FinMap.{get, entries}
use Rattle.std.specs.List.{list_any}
use Rattle.std.specs.Option.{option_map_or, option_and_then}
use Rattle.std.specs.Ordering.{eq_by_cmp}
use Rattle.ns_types.specs.declared.allocation.Allocation.{Allocation}
use Rattle.ns_types.specs.declared.evaluation.Evaluation.{Evaluation}
use Rattle.ns_types.specs.declared.node.Attribute.{Attribute}
use Rattle.ns_types.specs.declared.node.Class.{Class}
use Rattle.ns_types.specs.declared.node.Node.{Node}
use Rattle.ns_types.specs.declared.node.NodeStatus.{NodeStatus}
use Rattle.ns_types.specs.declared.node.Offer.{Offer}
use Rattle.ns_types.specs.declared.records.Namespace.{Namespace}
use Rattle.ns_types.specs.declared.records.Quota.{Quota}
use Rattle.ns_types.specs.declared.resources.Limit.{Limit}
use Rattle.ns_types.specs.declared.resources.Limit.TheVariants.{Unlimited, AtMost, Nothing}
use Rattle.ns_types.specs.declared.resources.Limits.{Limits}
use Rattle.ns_types.specs.declared.resources.Resources.{Resources}
use Rattle.ns_types.specs.Settling.Releases.{same_offer, ends, is_on, counts_in, changes_limits}
use Rattle.ns_types.specs.Settling.Releases.{gives_room, released_classes, releases_quota, wakes_by, released_between}
use Rattle.ns_types.specs.Settling.Releases.{can_use, wakes, woken}
use Rattle.ns_types.specs.Settling.Settle.{after_release, after_quota_release, number_releases, settle, stamp, stamp_tenant}
use Rattle.ns_types.specs.Settling.Settle.{unblocked_in, wake}
use Rattle.ns_types.specs.State.Lists.{Each}
use Rattle.ns_types.specs.State.Names.{Key, Name, has_key, attribute_cmp, same_class, has_class, same_name, same_number}
use Rattle.ns_types.specs.State.Resources.{Resource, Cpu, Memory, Disk, limits_in, limit_on, quantity, same_limit, same_limits, same_resources}
use Rattle.ns_types.specs.State.Rows.{State, World, Tenant, PoolRows, QuotaRows, is_live, is_free, is_ready, allocation_at, evaluation_at, node_at, class_of}
use Rattle.ns_types.specs.State.Tables.{any_row}
use Rattle.ns_types.proofs.Amounts.{same_amounts, true_at}
use Rattle.ns_types.proofs.Classes.{one_attribute, one_class}
use Rattle.ns_types.proofs.Elements.{any_map}
use Rattle.ns_types.proofs.Lists.{left_none, right_none, not_both}
use Rattle.ns_types.proofs.Named.{names, one_name, one_number, first_of_both, second_of_both, same_name_is, same_name_refl}
use Rattle.ns_types.proofs.Queue.{queues_keep}
use Rattle.ns_types.proofs.Tables.{get-map_rows, none_of_any, tied}
use Rattle.ns_types.proofs.Tests.{and_yes, is_no, is_yes, not_Some, same_Some}
use Rattle.ns_audit.proofs.Steady.Keeping.{has_key_filter}
use Rattle.ns_audit.proofs.ValidAllocations.Going.{release_nodes}
use Rattle.ns_laws.specs.Waking.{SleepsThrough, MayUse, IsOpen, StillLives, GotNoRoom, NoneSleepsOverRoom, GotNoQuota, NoneSleepsOverQuota}
use Rattle.ns_laws.proofs.Effect.Rows.{redated_allocation}
use Rattle.ns_laws.proofs.Wakes.Queue.{woken_are_called}
use Rattle.ns_audit.proofs.StepLemmas.{made}

-- ---- what a test has found the same is the same

pointwise_is : (xs ys : List Attribute) → pointwise (eq_by_cmp attribute_cmp) xs ys ≡ true → xs ≡ ys
pointwise_is [] [] e = refl
pointwise_is [] (y ∷ ys) e = not_both e refl
pointwise_is (x ∷ xs) [] e = not_both e refl
pointwise_is (x ∷ xs) (y ∷ ys) e = λ i. tied one_attribute x y (first_of_both (eq_by_cmp attribute_cmp x y) _ e) i
    ∷ pointwise_is xs ys (second_of_both (eq_by_cmp attribute_cmp x y) _ e) i

same_resources_is : (a b : Resources) → same_resources a b ≡ true → a ≡ b
same_resources_is a b e = same_amounts a b
    (λ r. tied one_number (quantity r a) (quantity r b) (true_at (λ r. same_number (quantity r a) (quantity r b)) e r))

pub same_offer_is : (a b : Offer) → same_offer a b ≡ true → a ≡ b
same_offer_is a b e =
    let alike = pointwise (eq_by_cmp attribute_cmp) a.attributes b.attributes in
    let both = first_of_both (same_name a.class b.class && alike) _ e in
    let class = same_name_is a.class b.class (first_of_both (same_name a.class b.class) alike both) in
    let attributes = pointwise_is a.attributes b.attributes (second_of_both (same_name a.class b.class) alike both) in
    let capacity = same_resources_is a.capacity b.capacity (second_of_both (same_name a.class b.class && alike) _ e) in
    λ i. record { class = class i; attributes = attributes i; capacity = capacity i }

same_limit_is : (a b : Limit) → same_limit a b ≡ true → a ≡ b
same_limit_is Unlimited Unlimited e = refl
same_limit_is Unlimited (AtMost n) e = not_both e refl
same_limit_is Unlimited Nothing e = not_both e refl
same_limit_is (AtMost m) Unlimited e = not_both e refl
same_limit_is (AtMost m) (AtMost n) e = ap AtMost (tied one_number m n e)
same_limit_is (AtMost m) Nothing e = not_both e refl
same_limit_is Nothing Unlimited e = not_both e refl
same_limit_is Nothing (AtMost n) e = not_both e refl
same_limit_is Nothing Nothing e = refl

same_limits_is : (a b : Limits) → same_limits a b ≡ true → a ≡ b
same_limits_is a b e = λ i. record { cpu = same Cpu i; memory = same Memory i; disk = same Disk i }
  where
    same : (r : Resource) → limit_on r a ≡ limit_on r b
    same r = same_limit_is (limit_on r a) (limit_on r b) (true_at (λ r. same_limit (limit_on r a) (limit_on r b)) e r)

not_listed : (classes : List Class) (class : Class) → Each (λ other. other ≢ class) classes → has_class classes class ≡ false
not_listed [] class h = refl
not_listed (other ∷ classes) class h = by (not_listed classes class h.1) (same_class class other) refl
  where
    by : has_class classes class ≡ false → (b : Bool) → same_class class other ≡ b → (b || has_class classes class) ≡ false
    by later true e = absurd (h.0 (sym (tied one_class class other e)))
    by later false e = later

pub can_use_of : (e : Evaluation) (class : Class) → MayUse e class → can_use e class ≡ true
can_use_of e class (inl escapes) = ap (λ b. b || not (has_class e.infeasible class)) escapes
can_use_of e class (inr none) = or_right e.escapes (not (has_class e.infeasible class)) (ap not (not_listed e.infeasible class none))

pub free_of : (node : Node) → IsOpen node → is_free node ≡ true
free_of node opens = λ i. is_ready (opens.0 i) && opens.1 i

pub open_of : (node : Node) → is_free node ≡ true → IsOpen node
open_of node free = (by node.status (first_of_both (is_ready node.status) node.eligible free), second_of_both (is_ready node.status) node.eligible free)
  where
    by : (status : NodeStatus) → is_ready status ≡ true → status ≡ NodeStatus.Ready
    by NodeStatus.Ready e = refl
    by NodeStatus.Down e = not_both e refl

-- ---- what the end of a step leaves

module _ (w x : World) where
  pub settled_blocked : (settle w x).blocked ≡ filter (λ key. not (has_key (woken w x) key)) x.blocked
  unfolding settle stamp number_releases wake
  settled_blocked = queues_keep (λ y. y.blocked) (λ y keys. refl) (woken w x) _

  -- whoever sleeps through it is not woken
  pub sleeps_on : (key : Key) (e : Evaluation) → has_key w.blocked key ≡ true → has_key (settle w x).blocked key ≡ true → evaluation_at w key ≡ Some e →
      wakes w x e ≡ false
  sleeps_on key e was is at =
      let kept = has_key_filter (λ key. not (has_key (woken w x) key)) x.blocked key (ap (λ keys. has_key keys key) (sym settled_blocked) ∙ is) in
      sym (woken_are_called w x key ∙ (λ i. was i && (kept.0 i && option_map_or (wakes w x) (at i) false))) ∙ is_no _ kept.1

  pub settled_nodes : (pool name : Name) → node_at (settle w x) pool name ≡ node_at x pool name
  unfolding settle stamp number_releases wake
  settled_nodes pool name =
      ap (option_and_then (λ (p : PoolRows). get p.nodes name)) (get-map_rows names one_name (λ k p. after_release (released_classes w x k p) p) _ pool)
      ∙ by (get _ pool)
      ∙ ap (λ m. option_and_then (λ (p : PoolRows). get p.nodes name) (get m pool)) (queues_keep (λ y. y.pools) (λ y keys. refl) (woken w x) _)
    where
      by : (o : Option PoolRows) → option_and_then (λ (p : PoolRows). get p.nodes name) (option_map (λ p. after_release (released_classes w x pool p) p) o)
          ≡ option_and_then (λ (p : PoolRows). get p.nodes name) o
      by None = refl
      by (Some p) = ap (λ m. get m name) (release_nodes (released_classes w x pool p) p)

  pub settled_pools : (pool : Name) → get (settle w x).pools pool ≡ option_map (λ p. after_release (released_classes w x pool p) p) (get x.pools pool)
  unfolding settle stamp number_releases wake
  settled_pools pool =
      get-map_rows names one_name (λ k p. after_release (released_classes w x k p) p) _ pool
      ∙ ap (λ m. option_map (λ p. after_release (released_classes w x pool p) p) (get m pool))
      (queues_keep (λ y. y.pools) (λ y keys. refl) (woken w x) _)

  abbrev pub closed_tenant : Name → Tenant → Tenant
  closed_tenant ns t = stamp_tenant (get w.tenants ns) (unblocked_in (woken w x) ns t)

  pub settled_tenants : (ns : Name) → get (settle w x).tenants ns ≡ option_map (closed_tenant ns) (get x.tenants ns)
  unfolding settle stamp number_releases wake
  settled_tenants ns =
      get-map_rows names one_name (λ ns t. stamp_tenant (get w.tenants ns) t) _ ns
      ∙ ap (λ m. option_map (λ t. stamp_tenant (get w.tenants ns) t) (get m ns)) (queues_keep (λ y. y.tenants) (λ y keys. refl) (woken w x) _)
      ∙ ap (option_map (λ t. stamp_tenant (get w.tenants ns) t)) (get-map_rows names one_name (unblocked_in (woken w x)) x.tenants ns)
      ∙ by (get x.tenants ns)
    where
      by : (o : Option Tenant) → option_map (λ t. stamp_tenant (get w.tenants ns) t) (option_map (unblocked_in (woken w x) ns) o) ≡
          option_map (closed_tenant ns) o
      by None = refl
      by (Some t) = refl

  pub settled_quotas : (quota : Name) → get (settle w x).quotas quota ≡
      option_map (λ q. after_quota_release (releases_quota w x quota q) q) (get x.quotas quota)
  unfolding settle stamp number_releases wake
  settled_quotas quota =
      get-map_rows names one_name (λ name q. after_quota_release (releases_quota w x name q) q) _ quota
      ∙ ap (λ m. option_map (λ q. after_quota_release (releases_quota w x quota q) q) (get m quota))
      (queues_keep (λ y. y.quotas) (λ y keys. refl) (woken w x) _)

-- a row that is stamped is as live as before
stamped_live : (old : Option Tenant) (t : Tenant) (n : ℕ) (a : Allocation) → get t.allocations n ≡ Some a → is_live a ≡ true →
    (b : Allocation) × (get (stamp_tenant old t).allocations n ≡ Some b) × (is_live b ≡ true)
stamped_live old t n a at live = let r = redated_allocation old t n a at in (record a { create_index = r.0; modify_index = r.1 }, r.2, live)

-- what is live when the step has changed what it changes is live after it
lives_on : (w x : World) (key : Key) → option_map_or is_live (allocation_at x key) false ≡ true → StillLives (settle w x) key
lives_on w x key live = by (get x.tenants key.0) refl live
  where
    row : (t : Tenant) → get x.tenants key.0 ≡ Some t → (r : Option Allocation) → get t.allocations key.1 ≡ r → option_map_or is_live r false ≡ true →
        StillLives (settle w x) key
    row t is None at live = not_both live refl
    row t is (Some a) at live =
        let b = stamped_live (get w.tenants key.0) (unblocked_in (woken w x) key.0 t) key.1 a at live in (
          b.0,
          (
            ap (option_and_then (λ (u : Tenant). get u.allocations key.1)) (settled_tenants w x key.0 ∙
                ap (option_map (closed_tenant w x key.0)) is) ∙ b.1,
            b.2,
          ),
        )

    by : (o : Option Tenant) → get x.tenants key.0 ≡ o → option_map_or is_live (option_and_then (λ t. get t.allocations key.1) o) false ≡ true →
        StillLives (settle w x) key
    by None is live = not_both live refl
    by (Some t) is live = row t is (get t.allocations key.1) refl live

third : (a b c : Bool) → a ≡ true → b ≡ true → (a && b && not c) ≡ false → c ≡ true
third true true c is also e = is_yes c e
third true false c is also e = not_both also refl
third false b c is also e = not_both is refl

-- where none that passes ends, each lives on
none_ends : (w x : World) (passes : Namespace → Allocation → Bool) → ends w x passes ≡ false → (ns : Name) (t : Tenant) (n : ℕ) (a : Allocation) →
    get w.tenants ns ≡ Some t → get t.allocations n ≡ Some a → is_live a ≡ true → passes t.namespace a ≡ true → StillLives (settle w x) (ns, n)
unfolding ends
none_ends w x passes none ns t n a is at live pass = lives_on w x (ns, n) (third (is_live a) (passes t.namespace a) _ live pass
    (none_of_any one_number (λ n a. is_live a && passes t.namespace a && not (option_map_or is_live (allocation_at x (ns, n)) false)) t.allocations n a
    (none_of_any one_name (λ ns t. any_row (λ n a. is_live a && passes t.namespace a && not (option_map_or is_live (allocation_at x (ns, n)) false))
    t.allocations) w.tenants ns t none is) at))

-- ---- nodes

pub any_filtered : {A : Type 0} (p q : A → Bool) (xs : List A) → list_any p (filter q xs) ≡ list_any (λ x. q x && p x) xs
any_filtered p q [] = refl
any_filtered p q (x ∷ xs) = elim (q x) as (λ b. list_any p (cond b (x ∷ filter q xs) (filter q xs)) ≡ (b && p x || list_any (λ x. q x && p x) xs)) [
  | true ↦ ap (λ b. p x || b) (any_filtered p q xs)
  | false ↦ any_filtered p q xs
]

-- a node of a class that the sleeper may use gave no room
no_room : (w x : World) (e : Evaluation) (name : Name) (row : Node) → wakes w x e ≡ false → e.quota ≡ None → node_at x e.pool name ≡ Some row →
    can_use e (class_of row) ≡ true → gives_room w x e.pool name row ≡ false
unfolding wakes released_classes any_row
no_room w x e name row asleep unlimited there usable = by (get x.pools e.pool) (sym (ap (wakes_by (released_between w x) e) unlimited) ∙ asleep) there
  where
    gives : Name × Node → Bool
    gives n = gives_room w x e.pool n.0 n.1

    by : (o : Option PoolRows) → list_any (can_use e) (option_map_or (released_classes w x e.pool) o []) ≡ false →
        option_and_then (λ p. get p.nodes name) o ≡ Some row → gives_room w x e.pool name row ≡ false
    by None asleep there = absurd (not_Some row there)
    by (Some p) asleep there = and_yes (gives_room w x e.pool name row) (ap (λ b. gives_room w x e.pool name row && b) (sym usable)
        ∙ none_of_any one_name (λ n node. gives_room w x e.pool n node && can_use e (class_of node)) p.nodes name row
        (sym (any_map (can_use e) (λ n. class_of n.1) (filter (λ n. gives_room w x e.pool n.0 n.1) (entries p.nodes))
        ∙ any_filtered (λ n. can_use e (class_of n.1)) (λ n. gives_room w x e.pool n.0 n.1) (entries p.nodes)) ∙ asleep) there)

pub was_there : (w x : World) (pool name : Name) (row : Node) (found : Option Node) → node_at w pool name ≡ found →
    option_map_or (λ old. not (is_free old) || not (same_offer old.offer row.offer)) found true ≡ false → ends w x (is_on pool name) ≡ false →
    GotNoRoom w (settle w x) pool name row
was_there w x pool name row None is same none = not_both refl same
was_there w x pool name row (Some old) is same none = record {
  old = old;
  there = is;
  took = open_of old (is_yes _ (left_none (not (is_free old)) _ same));
  offer = same_offer_is old.offer row.offer (is_yes _ (right_none (not (is_free old)) _ same));
  lasting = λ key a lives in_pool on_node. lasts key a (get w.tenants key.0) refl lives.0 lives.1 in_pool on_node;
}
  where
    lasts : (key : Key) (a : Allocation) (o : Option Tenant) → get w.tenants key.0 ≡ o → option_and_then (λ t. get t.allocations key.1) o ≡ Some a →
        is_live a ≡ true → a.pool ≡ pool → a.node ≡ name → StillLives (settle w x) key
    lasts key a None is at live in_pool on_node = absurd (not_Some a at)
    lasts key a (Some t) is at live in_pool on_node = none_ends w x (is_on pool name) none key.0 t key.1 a is at live
        ((λ i. same_name pool (in_pool i) && same_name name (on_node i)) ∙ (λ i. same_name_refl pool i && same_name_refl name i))

asleep_over : (w x : World) (key : Key) (e : Evaluation) (name : Name) (row : Node) → has_key w.blocked key ≡ true → has_key (settle w x).blocked key ≡ true →
    evaluation_at w key ≡ Some e → e.quota ≡ None → node_at (settle w x) e.pool name ≡ Some row → IsOpen row → MayUse e (class_of row) →
    GotNoRoom w (settle w x) e.pool name row
asleep_over w x key e name row was is at unlimited there opens usable =
    let none = no_room w x e name row (sleeps_on w x key e was is at) unlimited (sym (settled_nodes w x e.pool name) ∙ there)
    (can_use_of e (class_of row) usable) in
    let why = ap (λ b. b && (option_map_or (λ old. not (is_free old) || not (same_offer old.offer row.offer)) (node_at w e.pool name) true
    || ends w x (is_on e.pool name))) (sym (free_of row opens)) ∙ none in
    was_there w x e.pool name row (node_at w e.pool name) refl (left_none _ _ why) (right_none _ (ends w x (is_on e.pool name)) why)

pub none_sleeps_over_room : NoneSleepsOverRoom
none_sleeps_over_room step s t reply key e name row e' =
    let m = made step s t reply e' in
    subst (λ (t : State). SleepsThrough s.world t.world key → evaluation_at s.world key ≡ Some e → e.quota ≡ None → node_at t.world e.pool name ≡ Some row →
    IsOpen row → MayUse e (class_of row) → GotNoRoom s.world t.world e.pool name row) m.leads
    (λ sleeps at unlimited there opens usable. asleep_over s.world m.own.world key e name row sleeps.0 sleeps.1 at unlimited there opens usable)

-- ---- quotas

pub quota_same : (w x : World) (quota : Name) (old rows : QuotaRows) → get w.quotas quota ≡ Some old → releases_quota w x quota rows ≡ false →
    (new : QuotaRows) → rows.quota ≡ new.quota → GotNoQuota w (settle w x) quota old new
unfolding releases_quota
quota_same w x quota old rows was none new same = record {
  limits = same_limits_is _ _ (is_yes _ (sym (ap (λ o. option_map_or (λ old. changes_limits old rows) o false) was) ∙ left_none _ _ none))
      ∙ ap (λ (q : Quota). limits_in q.limits) same;
  lasting = λ ns t n a is names_it at live. none_ends w x (counts_in quota) (right_none _ (ends w x (counts_in quota)) none) ns t n a is at live
      (ap (λ o. option_map_or (same_name quota) o false) names_it ∙ same_name_refl quota);
}

asleep_over_quota : (w x : World) (key : Key) (e : Evaluation) (quota : Name) (old new : QuotaRows) → has_key w.blocked key ≡ true →
    has_key (settle w x).blocked key ≡ true → evaluation_at w key ≡ Some e → e.quota ≡ Some quota → get w.quotas quota ≡ Some old →
    get (settle w x).quotas quota ≡ Some new → GotNoQuota w (settle w x) quota old new
unfolding wakes
asleep_over_quota w x key e quota old new was is at limited before later =
    by (get x.quotas quota) (sym (settled_quotas w x quota) ∙ later) (sym (ap (wakes_by (released_between w x) e) limited) ∙ sleeps_on w x key e was is at)
  where
    kept : (b : Bool) (rows : QuotaRows) → (after_quota_release b rows).quota ≡ rows.quota
    kept true rows = refl
    kept false rows = refl

    by : (o : Option QuotaRows) → option_map (λ q. after_quota_release (releases_quota w x quota q) q) o ≡ Some new →
        option_map_or (releases_quota w x quota) o false ≡ false → GotNoQuota w (settle w x) quota old new
    by None is none = absurd (not_Some new is)
    by (Some rows) is none = quota_same w x quota old rows before none new
        (sym (kept (releases_quota w x quota rows) rows) ∙ ap (λ (q : QuotaRows). q.quota) (same_Some _ new is))

pub none_sleeps_over_quota : NoneSleepsOverQuota
none_sleeps_over_quota step s t reply key e quota old new e' =
    let m = made step s t reply e' in
    subst (λ (t : State). SleepsThrough s.world t.world key → evaluation_at s.world key ≡ Some e → e.quota ≡ Some quota → get s.world.quotas quota ≡ Some old →
    get t.world.quotas quota ≡ Some new → GotNoQuota s.world t.world quota old new) m.leads
    (λ sleeps at limited before later. asleep_over_quota s.world m.own.world key e quota old new sleeps.0 sleeps.1 at limited before later)

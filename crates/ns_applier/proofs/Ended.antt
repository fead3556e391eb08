-- What such a step releases, and whom that wakes, said by the allocations that end.
use Rattle.std.specs.Prelude.{◌≡◌, ℕ, Bool, true, false, not, ◌&&◌, ◌||◌, if◌then◌else◌, List, [], ◌∷◌, Option, Some, None, filter, flat_map, is_some}
use Rattle.std.specs.Prelude.{option_map}
use Rattle.std.proofs.Common.{refl, sym, ap, ◌∙◌}
use Rattle.std.specs.Option.{option_and_then, option_map_or}
use Rattle.std.specs.List.{list_any}
use Rattle.std.specs.Cmp.{eq_by_cmp_equiv}
use Rattle.std.specs.FinMap.{contains_key, entries, get}
use Rattle.keyed.proofs.Queues.{filter_alike}
use Rattle.ns_types.specs.declared.allocation.Allocation.{Allocation}
use Rattle.ns_types.specs.declared.evaluation.Evaluation.{Evaluation}
use Rattle.ns_types.specs.declared.node.Class.{Class}
use Rattle.ns_types.specs.declared.node.Node.{Node}
use Rattle.ns_types.specs.declared.records.Namespace.{Namespace}
use Rattle.ns_types.specs.Settling.Releases.{can_use, changes_limits, classes_of, counts_in, ends}
use Rattle.ns_types.specs.Settling.Releases.{gives_room, is_on, is_released_quota, wakes_by, released_between}
use Rattle.ns_types.specs.Settling.Releases.{released_classes, releases_quota, same_offer, wakes, woken}
use Rattle.ns_types.specs.State.Names.{Name, Key, has_key, has_name, same_name}
use Rattle.ns_types.specs.State.Resources.{limits_in}
use Rattle.ns_types.specs.State.Rows.{World, PoolRows, QuotaRows, Tenant, class_of, evaluation_at, is_free, is_live, node_at}
use Rattle.ns_types.specs.State.Tables.{any_row}
use Rattle.ns_types.proofs.Alike.{same_limits_refl}
use Rattle.ns_types.proofs.Elements.{any_flat, any_map, any_same}
use Rattle.ns_types.proofs.Lists.{not_both}
use Rattle.ns_types.proofs.Named.{names, numbers, one_name, one_number}
use Rattle.ns_types.proofs.TableRows.{any_row-alike}
use Rattle.ns_types.proofs.Tables.{tied}
use Rattle.ns_types.proofs.Tests.{or_none}
use Rattle.ns_release.specs.Released.{at_room, quota_left, releases_wake, releases_wake_at, room_at, room_left, released_of}
use Rattle.ns_release.proofs.Rooms.{any_and, any_image, any_none, any_row-at, any_swap}
use Rattle.ns_counters.proofs.Bounded.{any_named, any_with}
use Rattle.ns_types.specs.Working.Parts.{lives_at}
use Rattle.ns_applier.specs.Releasing.{EndsAlone}
use Rattle.ns_applier.proofs.Keys.{any_row-keys}
use Rattle.std.proofs.Math.Bool.{and-false, and-true}

pub and_moved : (a b c : Bool) → ((a && b) && c) ≡ (b && (a && c))
and_moved true b c = refl
and_moved false b c = sym (and-false b)

-- the allocation at a key, with its namespace's record
abbrev pub entry_at : World → Key → Option (Namespace × Allocation)
entry_at w key = option_and_then (λ t. option_map (λ a. (t.namespace, a)) (get t.allocations key.1)) (get w.tenants key.0)

-- a test of it
abbrev pub at_key : World → (Namespace → Allocation → Bool) → Key → Bool
at_key w passes key = option_map_or (λ e. passes e.0 e.1) (entry_at w key) false

-- what it leaves, in the world after the step
abbrev pub rooms_at : World → World → Key → List (Name × Class)
rooms_at w x key = option_map_or (λ e. room_at x e.1) (entry_at w key) []

abbrev pub quotas_at : World → Key → List Name
quotas_at w key = option_map_or (λ e. quota_left e.0) (entry_at w key) []

module _ (w x : World) (keys : List Key) (only : EndsAlone w x keys) where
  abbrev pub rooms : List (Name × Class)
  rooms = flat_map (rooms_at w x) keys

  abbrev pub quotas : List Name
  quotas = flat_map (quotas_at w) keys

  -- ---- which allocations end

  ends_are : (passes : Namespace → Allocation → Bool) → ends w x passes ≡ list_any (at_key w passes) keys
  unfolding ends
  ends_are passes = any_row-alike names one_name _ (λ ns t. list_any (λ k. same_name ns k.0 && passes_at t k) keys) w.tenants
      (λ ns t is. any_row-alike numbers one_number _ (λ n a. has_key keys (ns, n) && passes t.namespace a) t.allocations (λ n a at. row ns t n a is at)
      ∙ any_row-keys ns keys (λ _ a. passes t.namespace a) t.allocations)
      ∙ any_named (λ k. k.0) (λ k _ t. passes_at t k) w.tenants keys
      ∙ any_same _ (at_key w passes) (λ k. by k (get w.tenants k.0)) keys
    where
      passes_at : Tenant → Key → Bool
      passes_at t k = option_map_or (passes t.namespace) (get t.allocations k.1) false

      turned : (l p e : Bool) → (l && p && e) ≡ ((l && e) && p)
      turned true true e = sym (and-true e)
      turned true false e = sym (and-false e)
      turned false p e = refl

      lives : (ns : Name) (t : Tenant) (n : ℕ) (a : Allocation) → get w.tenants ns ≡ Some t → get t.allocations n ≡ Some a → lives_at w (ns, n) ≡ is_live a
      lives ns t n a is at = ap (λ o. option_map_or is_live (option_and_then (λ (t : Tenant). get t.allocations n) o) false) is
          ∙ ap (λ o. option_map_or is_live o false) at

      row : (ns : Name) (t : Tenant) (n : ℕ) (a : Allocation) → get w.tenants ns ≡ Some t → get t.allocations n ≡ Some a →
          (is_live a && passes t.namespace a && not (lives_at x (ns, n))) ≡ (has_key keys (ns, n) && passes t.namespace a)
      row ns t n a is at = turned (is_live a) (passes t.namespace a) (not (lives_at x (ns, n)))
          ∙ ap (λ b. b && passes t.namespace a) (sym (only.ended (ns, n) ∙ ap (λ b. b && not (lives_at x (ns, n))) (lives ns t n a is at)))

      of : (t : Tenant) (o : Option Allocation) → option_map_or (passes t.namespace) o false
          ≡ option_map_or (λ (e : Namespace × Allocation). passes e.0 e.1) (option_map (λ a. (t.namespace, a)) o) false
      of t None = refl
      of t (Some a) = refl

      by : (k : Key) (o : Option Tenant) → option_map_or (λ t. passes_at t k) o false
          ≡ option_map_or (λ (e : Namespace × Allocation). passes e.0 e.1) (option_and_then (λ t. option_map
          (λ a. (t.namespace, a)) (get t.allocations k.1)) o) false
      by k None = refl
      by k (Some t) = of t (get t.allocations k.1)

  -- ---- quotas

  left_here : (name : Name) → ends w x (counts_in name) ≡ has_name quotas name
  left_here name = ends_are (counts_in name) ∙ any_same _ (λ key. list_any (same_name name) (quotas_at w key)) (λ key. by (entry_at w key)) keys
      ∙ sym (any_flat (same_name name) (quotas_at w) keys)
    where
      of : (q : Option Name) → option_map_or (same_name name) q false ≡ list_any (same_name name) (option_map_or (λ quota. quota ∷ []) q [])
      of None = refl
      of (Some q) = sym (or_none (same_name name q))

      by : (o : Option (Namespace × Allocation)) → option_map_or (λ e. counts_in name e.0 e.1) o false
          ≡ list_any (same_name name) (option_map_or (λ e. quota_left e.0) o [])
      by None = refl
      by (Some e) = of e.0.quota

  pub quota_is : (name : Name) (q : QuotaRows) → get w.quotas name ≡ Some q → releases_quota w x name q ≡ has_name quotas name
  unfolding releases_quota
  quota_is name q is = (λ i. option_map_or (λ old. changes_limits old q) (is i) false || left_here name i)
      ∙ ap (λ b. not b || has_name quotas name) (same_limits_refl (limits_in q.quota.limits))

  released_is : (name : Name) → is_released_quota w x name ≡ (contains_key w.quotas name && has_name quotas name)
  released_is name = ap (λ m. option_map_or (releases_quota w x name) (get m name) false) only.quotas ∙ by (get w.quotas name) refl
    where
      by : (o : Option QuotaRows) → get w.quotas name ≡ o → option_map_or (releases_quota w x name) o false ≡ (is_some o && has_name quotas name)
      by None is = refl
      by (Some q) is = quota_is name q is

  -- ---- room

  module _ (name : Name) (passes : Class → Bool) where
    abbrev serves : Node → Bool
    serves node = is_free node && passes (class_of node)

    -- an allocation of that pool left it on a node of the pool
    abbrev left_on : Option PoolRows → Namespace × Allocation → Bool
    left_on pool e = same_name name e.1.pool && option_map_or serves (option_and_then (λ p. get p.nodes e.1.node) pool) false

    abbrev left_at : Option PoolRows → Key → Bool
    left_at pool key = option_map_or (left_on pool) (entry_at w key) false

    room_here : (e : Namespace × Allocation) → list_any (at_room name passes) (room_at x e.1) ≡ left_on (get x.pools name) e
    room_here e = any_map (at_room name passes) (λ class. (e.1.pool, class)) (room_left (node_at x e.1.pool e.1.node))
        ∙ sym (any_and (same_name name e.1.pool) passes (room_left (node_at x e.1.pool e.1.node)))
        ∙ by (same_name name e.1.pool) refl
      where
        free : (b : Bool) (node : Node) → list_any passes (if b then class_of node ∷ [] else []) ≡ (b && passes (class_of node))
        free true node = or_none (passes (class_of node))
        free false node = refl

        of : (o : Option Node) → list_any passes (room_left o) ≡ option_map_or serves o false
        of None = refl
        of (Some node) = free (is_free node) node

        by : (b : Bool) → same_name name e.1.pool ≡ b → (b && list_any passes (room_left (node_at x e.1.pool e.1.node)))
            ≡ (b && option_map_or serves (option_and_then (λ (p : PoolRows). get p.nodes e.1.node) (get x.pools name)) false)
        by false other = refl
        by true is = of (node_at x e.1.pool e.1.node) ∙ ap (λ pool. option_map_or serves (node_at x pool e.1.node) false) (sym (tied one_name name e.1.pool is))

    in_rooms : list_any (at_room name passes) rooms ≡ list_any (left_at (get x.pools name)) keys
    in_rooms = any_flat (at_room name passes) (rooms_at w x) keys ∙ any_same _ (left_at (get x.pools name)) (λ key. by (entry_at w key)) keys
      where
        by : (o : Option (Namespace × Allocation)) → list_any (at_room name passes) (option_map_or (λ e. room_at x e.1) o [])
            ≡ option_map_or (left_on (get x.pools name)) o false
        by None = refl
        by (Some e) = room_here e

    module _ (p : PoolRows) (is : get x.pools name ≡ Some p) where
      abbrev ended_on : Name → Bool
      ended_on n = list_any (at_key w (is_on name n)) keys

      gives_is : (n : Name) (node : Node) → get p.nodes n ≡ Some node → (gives_room w x name n node && passes (class_of node)) ≡ (ended_on n && serves node)
      gives_is n node at = ap (λ b. (is_free node && (old || b)) && passes (class_of node)) (ends_are (is_on name n))
          ∙ by (is_free node) old (ended_on n) (passes (class_of node))
          (only.nodes name n node (ap (option_and_then (λ (p : PoolRows). get p.nodes n)) is ∙ at))
        where
          old : Bool
          old = option_map_or (λ old. not (is_free old) || not (same_offer old.offer node.offer)) (node_at w name n) true

          by : (f o e g : Bool) → (f && o) ≡ false → ((f && (o || e)) && g) ≡ (e && (f && g))
          by true true e g none = not_both refl none
          by true false e g none = refl
          by false o e g none = sym (and-false e)

      on_node : (e : Namespace × Allocation) → any_row (λ n node. is_on name n e.0 e.1 && serves node) p.nodes ≡ left_on (Some p) e
      on_node e = any_row-alike names one_name _ (λ n node. same_name e.1.node n && (same_name name e.1.pool && serves node)) p.nodes
          (λ n node _. and_moved (same_name name e.1.pool) (same_name n e.1.node) (serves node)
          ∙ ap (λ b. b && (same_name name e.1.pool && serves node)) ((eq_by_cmp_equiv names).symm n e.1.node))
          ∙ any_row-at names one_name e.1.node (λ _ node. same_name name e.1.pool && serves node) p.nodes
          ∙ by (same_name name e.1.pool) (get p.nodes e.1.node)
        where
          by : (b : Bool) (o : Option Node) → option_map_or (λ node. b && serves node) o false ≡ (b && option_map_or serves o false)
          by true o = refl
          by false None = refl
          by false (Some node) = refl

      classes_are : list_any passes (released_classes w x name p) ≡ list_any (left_at (Some p)) keys
      unfolding released_classes any_row
      classes_are = any_image passes (λ e. class_of e.1) (λ e. gives_room w x name e.0 e.1) (entries p.nodes)
          ∙ any_row-alike names one_name (λ n node. gives_room w x name n node && passes (class_of node)) (λ n node. ended_on n && serves node) p.nodes gives_is
          ∙ any_same _ (λ (e : Name × Node). list_any (λ key. at_key w (is_on name e.0) key && serves e.1) keys)
          (λ e. any_with (at_key w (is_on name e.0)) (serves e.1) keys) (entries p.nodes)
          ∙ any_swap (λ (e : Name × Node) key. at_key w (is_on name e.0) key && serves e.1) (entries p.nodes) keys
          ∙ any_same _ (left_at (Some p)) (λ key. by (entry_at w key)) keys
        where
          by : (o : Option (Namespace × Allocation)) →
              list_any (λ (e : Name × Node). option_map_or (λ a. is_on name e.0 a.0 a.1) o false && serves e.1) (entries p.nodes)
              ≡ option_map_or (left_on (Some p)) o false
          by None = any_none (entries p.nodes)
          by (Some e) = on_node e

      pub pool_is : list_any passes (released_classes w x name p) ≡ list_any (at_room name passes) rooms
      pool_is = classes_are ∙ ap (λ pool. list_any (left_at pool) keys) (sym is) ∙ sym in_rooms

    rooms_are : list_any passes (classes_of w x name) ≡ list_any (at_room name passes) rooms
    rooms_are = by (get x.pools name) refl
      where
        none : (o : Option (Namespace × Allocation)) → option_map_or (left_on None) o false ≡ false
        none None = refl
        none (Some e) = and-false (same_name name e.1.pool)

        by : (o : Option PoolRows) → get x.pools name ≡ o →
            list_any passes (option_map_or (released_classes w x name) o []) ≡ list_any (at_room name passes) rooms
        by (Some p) is = pool_is p is
        by None is = sym (in_rooms ∙ ap (λ pool. list_any (left_at pool) keys) is ∙ any_same _ (λ _. false) (λ key. none (entry_at w key)) keys ∙ any_none keys)

  -- ---- whom that wakes

  wakes_are : (e : Evaluation) → wakes w x e ≡ releases_wake w rooms quotas e
  unfolding wakes
  wakes_are e = by e.quota
    where
      by : (q : Option Name) → wakes_by (released_between w x) e q ≡ wakes_by (released_of w rooms quotas) e q
      by (Some q) = released_is q
      by None = rooms_are e.pool (can_use e)

  pub woken_are : woken w x ≡ filter (releases_wake_at w rooms quotas) w.blocked
  unfolding woken
  woken_are = filter_alike _ (releases_wake_at w rooms quotas) w.blocked (λ key is. (λ i. has_key (only.blocked i) key
      && option_map_or (λ e. wakes_are e i) (evaluation_at w key) false) ∙ ap (λ b. b && releases_wake_at w rooms quotas key) is)

-- Changes that leave allocations where they are, and what every step does at its end: allocations stay sound.
use Rattle.std.specs.Prelude.{◌≡◌, ℕ, ◌+◌, ◌≤◌, Bool, true, false, cond, List, [], ◌∷◌, Option, Some, None, fold, option_map}
use Rattle.std.proofs.Common.{◌⊎◌, inl, inr, refl, sym, ap, subst, ◌∙◌}
use Rattle.std.specs.FinMap.{get, insert}
use Rattle.std.specs.Option.{option_map_or, option_and_then}
use Rattle.ns_types.specs.declared.allocation.Allocation.{Allocation}
use Rattle.ns_types.specs.declared.evaluation.Evaluation.{Evaluation}
use Rattle.ns_types.specs.declared.node.Class.{Class}
use Rattle.ns_types.specs.Settling.Making.{put_tenant, change_tenant, with_evaluation, make_in}
use Rattle.ns_types.specs.State.Names.{Name, Key, ByNumber}
use Rattle.ns_types.specs.Settling.Releases.{released_classes, woken}
use Rattle.ns_types.specs.State.Rows.{World, Tenant, PoolRows, is_live, node_at}
use Rattle.ns_types.specs.Settling.Settle.{unblocked_in, wake, after_release, number_releases, is_touched, changes_allocation, created_at, stamped_allocation}
use Rattle.ns_types.specs.Settling.Settle.{stamped, stamp_tenant, stamp, settle}
use Rattle.ns_types.specs.Access.Sharing.{permits}
use Rattle.ns_types.specs.State.Tables.{map_rows}
use Rattle.ns_types.proofs.Named.{names, one_name, numbers as numbers_, one_number}
use Rattle.ns_types.proofs.Tables.{get-map_rows}
use Rattle.ns_types.proofs.Tests.{same_Some}
use Rattle.ns_types.proofs.TableRows.{row_of_insert}
use Rattle.ns_audit.proofs.ValidAllocations.Statement.{IsAllocated}
use Rattle.ns_audit.proofs.Steady.Keeping.{row_of_map, more}
use Rattle.ns_types.proofs.Queue.{queue_keeps, queues_keep}
use Rattle.ns_audit.proofs.ValidAllocations.Sound.{itself, le_then, le_same, ComesFrom, IsFrom, allocated_from, nodes_stay, nodes_hold}

-- ---- namespaces that go on from namespaces of another world

-- each namespace of x was one of w, and P says how it went on
abbrev pub Onward : (Tenant → Tenant → Type 0) → World → World → Type 0
Onward P w x = (ns : Name) (t' : Tenant) → get x.tenants ns ≡ Some t' → (t : Tenant) × (get w.tenants ns ≡ Some t) × P t t'

module _ (P : Tenant → Tenant → Type 0) (still : (t : Tenant) → P t t) where
  pub onward_same : (w x : World) → x.tenants ≡ w.tenants → Onward P w x
  onward_same w x same ns t is = (t, sym (ap (λ m. get m ns) same) ∙ is, still t)

  pub onward_put : (w : World) (ns : Name) (t t' : Tenant) → get w.tenants ns ≡ Some t → P t t' → Onward P w (put_tenant ns t' w)
  onward_put w ns t t' is p k u at = by (row_of_insert names one_name w.tenants ns t' k u at)
    where
      by : ((k ≡ ns) × (t' ≡ u)) ⊎ (get w.tenants k ≡ Some u) → (t : Tenant) × (get w.tenants k ≡ Some t) × P t u
      by (inl e) = (t, ap (get w.tenants) e.0 ∙ is, subst (P t) e.1 p)
      by (inr old) = (u, old, still u)

  pub onward_change : (w : World) (ns : Name) (f : Tenant → Tenant) → ((t : Tenant) → get w.tenants ns ≡ Some t → P t (f t)) → Onward P w (change_tenant ns f w)
  onward_change w ns f p = by (get w.tenants ns) refl
    where
      by : (o : Option Tenant) → get w.tenants ns ≡ o → Onward P w (option_map_or (λ t. put_tenant ns (f t) w) o w)
      by None is = onward_same w w refl
      by (Some t) is = onward_put w ns t (f t) is (p t is)

  pub onward_map : (w : World) (f : Name → Tenant → Tenant) → ((ns : Name) (t : Tenant) → P t (f ns t)) →
      Onward P w (record w { tenants = map_rows f w.tenants })
  onward_map w f p ns t' is = let y = row_of_map names one_name f w.tenants ns t' is in (y.0, y.1, subst (P y.0) y.2 (p ns y.0))

  -- a new evaluation, which is ready or waits
  pub onward_make_in : (w : World) (ns : Name) (e : Evaluation) (t t' : Tenant) → get w.tenants ns ≡ Some t → P t (with_evaluation e t') →
      Onward P w (make_in ns e w t')
  onward_make_in w ns e t t' is p k u at = onward_put w ns t (with_evaluation e t') is p k u
      (sym (ap (λ m. get m k) (queue_keeps (λ x. x.tenants) (λ x keys. refl) (put_tenant ns (with_evaluation e t') w) (ns, t'.evaluation_number + 1))) ∙ at)

  module _ (then : (t u v : Tenant) → P t u → P u v → P t v) where
    pub onward_then : (w x y : World) → Onward P w x → Onward P x y → Onward P w y
    onward_then w x y h k ns t is =
        let b = k ns t is in
        let a = h ns b.0 b.1 in
        (a.0, a.1, then a.0 b.0 t a.2 b.2)

    pub onward_each : {A : Type 0} (f : World → A → World) → ((w : World) (a : A) → Onward P w (f w a)) → (as_ : List A) (w : World) → Onward P w (fold f w as_)
    onward_each f h [] w = onward_same w w refl
    onward_each f h (a ∷ as_) w = onward_then w (f w a) (fold f (f w a) as_) (h w a) (onward_each f h as_ (f w a))

-- its index and its record are the same, and evaluations were numbered at most
pub record Lasts (t t' : Tenant) : Type 0 where
  pub namespace : t'.namespace ≡ t.namespace
  pub index : t'.index ≡ t.index
  pub evaluations : t.evaluation_number ≤ t'.evaluation_number

pub lasts_still : (t : Tenant) → Lasts t t
lasts_still t = record { namespace = refl; index = refl; evaluations = itself _ }

pub lasts_then : (t u v : Tenant) → Lasts t u → Lasts u v → Lasts t v
lasts_then t u v a b = record { namespace = b.namespace ∙ a.namespace; index = b.index ∙ a.index; evaluations = le_then _ _ _ a.evaluations b.evaluations }

pub lasts_evaluation : (e : Evaluation) (t : Tenant) → Lasts t (with_evaluation e t)
lasts_evaluation e t = record { namespace = refl; index = refl; evaluations = more _ _ (itself t.evaluation_number) }

-- an allocation with other statuses, which is live only if it was
pub record GoesRow (rows : ByNumber Allocation) (n : ℕ) (b : Allocation) : Type 0 where
  pub row : Allocation
  pub is_row : get rows n ≡ Some row
  pub same : b ≡ record row { desired = b.desired; client = b.client }
  pub live : is_live b ≡ true → is_live row ≡ true

-- and there is no other allocation
pub record Goes (t t' : Tenant) : Type 0 where
  pub lasts : Lasts t t'
  pub number : t.allocation_number ≤ t'.allocation_number
  pub row : (n : ℕ) (b : Allocation) → get t'.allocations n ≡ Some b → GoesRow t.allocations n b

pub goes_quiet : (t t' : Tenant) → Lasts t t' → t'.allocations ≡ t.allocations → t'.allocation_number ≡ t.allocation_number → Goes t t'
goes_quiet t t' lasts same number = record {
  lasts = lasts;
  number = le_same _ _ (sym number);
  row = λ n b at. record { row = b; is_row = sym (ap (λ m. get m n) same) ∙ at; same = refl; live = λ live. live };
}

pub goes_still : (t : Tenant) → Goes t t
goes_still t = goes_quiet t t (lasts_still t) refl refl

pub goes_evaluation : (e : Evaluation) (t : Tenant) → Goes t (with_evaluation e t)
goes_evaluation e t = goes_quiet t (with_evaluation e t) (lasts_evaluation e t) refl refl

pub goes_then : (t u v : Tenant) → Goes t u → Goes u v → Goes t v
goes_then t u v a b = record {
  lasts = lasts_then t u v a.lasts b.lasts;
  number = le_then _ _ _ a.number b.number;
  row = λ n x at.
      let r = b.row n x at in
      let q = a.row n r.row r.is_row in
      record {
        row = q.row;
        is_row = q.is_row;
        live = λ live. q.live (r.live live);
        same = r.same ∙
            (λ i. record (q.same i) { desired = x.desired; client = x.client });
      };
}

-- another allocation in the place of one
pub goes_row : (t : Tenant) (n : ℕ) (a b : Allocation) → get t.allocations n ≡ Some a → b ≡ record a { desired = b.desired; client = b.client } →
    (is_live b ≡ true → is_live a ≡ true)
    → Goes t (record t { allocations = insert t.allocations n b })
goes_row t n a b is same live = record {
  lasts = record { namespace = refl; index = refl; evaluations = itself t.evaluation_number };
  number =
      itself t.allocation_number;
  row = λ m x at. by m x (row_of_insert numbers_ one_number t.allocations n b m x at);
}
  where
    by : (m : ℕ) (x : Allocation) → ((m ≡ n) × (b ≡ x)) ⊎ (get t.allocations m ≡ Some x) → GoesRow t.allocations m x
    by m x (inl e) = subst (GoesRow t.allocations m) e.1 (record { row = a; is_row = ap (get t.allocations) e.0 ∙ is; same = same; live = live })
    by m x (inr at) = record { row = x; is_row = at; same = refl; live = λ live. live }

-- ---- worlds that go on

pub goes_from : (w x : World) → IsAllocated w → Onward Goes w x → IsFrom w x
goes_from w x s goes ns t n b is at =
    let g = goes ns t is in
    let r = g.2.row n b at in
    let old = s.allocation ns g.0 n r.row g.1 r.is_row in
    let to_index = le_same g.0.index t.index (sym g.2.lasts.index) in record {
      tenant = g.0;
      is_tenant = g.1;
      row = r.row;
      is_row = r.is_row;
      same = r.same ∙ (λ i. record r.row {
        desired = b.desired;
        client = b.client;
        create_index =
            sym (ap (λ (a : Allocation). a.create_index) r.same) i;
        modify_index = sym (ap (λ (a : Allocation). a.modify_index) r.same) i;
      });
      live = r.live;
      permitted = λ live allowed. subst (λ n. permits n r.row.pool ≡ true) (sym g.2.lasts.namespace) allowed;
      index = to_index;
      evaluations = g.2.lasts.evaluations;
      number = g.2.number;
      created = le_then b.create_index g.0.index t.index (subst (λ (a : Allocation). a.create_index ≤ g.0.index) (sym r.same) old.created) to_index;
      modified = le_then b.modify_index g.0.index t.index (subst (λ (a : Allocation). a.modify_index ≤ g.0.index) (sym r.same) old.modified) to_index;
    }

pub allocated_on : (w x : World) → IsAllocated w → Onward Goes w x → ((pool name : Name) → node_at x pool name ≡ node_at w pool name) → IsAllocated x
allocated_on w x s goes same = allocated_from w x s (goes_from w x s goes) (nodes_stay w x same) (nodes_hold w x s same)

-- ---- outcomes

-- a namespace of both worlds has the same index
abbrev pub SameIndex : World → World → Type 0
SameIndex w x = (ns : Name) (o t : Tenant) → get w.tenants ns ≡ Some o → get x.tenants ns ≡ Some t → t.index ≡ o.index

pub same_index : (w x : World) → Onward Lasts w x → SameIndex w x
same_index w x lasts ns o t was is = let l = lasts ns t is in l.2.index ∙ ap (λ (t : Tenant). t.index) (same_Some _ _ (sym l.1 ∙ was))

pub goes_lasts : (w x : World) → Onward Goes w x → Onward Lasts w x
goes_lasts w x goes ns t is = let g = goes ns t is in (g.0, g.1, g.2.lasts)

-- what a change of w leads to, before it settles
pub record Allocates (w x : World) : Type 0 where
  pub allocated : IsAllocated x
  pub index : SameIndex w x

pub allocates_on : (w x : World) → IsAllocated w → Onward Goes w x → ((pool name : Name) → node_at x pool name ≡ node_at w pool name) → Allocates w x
allocates_on w x s goes same = record { allocated = allocated_on w x s goes same; index = same_index w x (goes_lasts w x goes) }

pub allocates_still : (w : World) → IsAllocated w → Allocates w w
allocates_still w s = record { allocated = s; index = λ ns o t was is. ap (λ (t : Tenant). t.index) (same_Some _ _ (sym is ∙ was)) }

-- ---- what every step does at its end

wakes_on : (keys : List Key) (w : World) → Onward Goes w (wake keys w)
unfolding wake
wakes_on keys w ns t is = onward_map Goes goes_still w (unblocked_in keys)
    (λ k u. goes_quiet u (unblocked_in keys k u) (record { namespace = refl; index = refl; evaluations = itself u.evaluation_number }) refl refl) ns t
    (sym (ap (λ m. get m ns) (queues_keep (λ y. y.tenants) (λ y ks. refl) keys _)) ∙ is)

wakes_nodes : (keys : List Key) (w : World) (pool name : Name) → node_at (wake keys w) pool name ≡ node_at w pool name
unfolding wake
wakes_nodes keys w pool name = ap (λ m. option_and_then (λ (p : PoolRows). get p.nodes name) (get m pool)) (queues_keep (λ y. y.pools) (λ y ks. refl) keys _)

pub release_nodes : (classes : List Class) (p : PoolRows) → (after_release classes p).nodes ≡ p.nodes
release_nodes [] p = refl
release_nodes (class ∷ classes) p = refl

releases_nodes : (w w' x : World) (pool name : Name) → node_at (number_releases w w' x) pool name ≡ node_at x pool name
unfolding number_releases
releases_nodes w w' x pool name = ap (option_and_then (λ (p : PoolRows). get p.nodes name))
    (get-map_rows names one_name (λ k p. after_release (released_classes w w' k p) p) x.pools pool) ∙ by (get x.pools pool)
  where
    by : (o : Option PoolRows) → option_and_then (λ (p : PoolRows). get p.nodes name) (option_map (λ p. after_release (released_classes w w' pool p) p) o)
        ≡ option_and_then (λ (p : PoolRows). get p.nodes name) o
    by None = refl
    by (Some p) = ap (λ m. get m name) (release_nodes (released_classes w w' pool p) p)

releases_on : (w w' x : World) → Onward Goes x (number_releases w w' x)
unfolding number_releases
releases_on w w' x = onward_same Goes goes_still x (number_releases w w' x) refl

-- an allocation comes from itself
pub comes_same : (x : World) → IsAllocated x → (ns : Name) (t : Tenant) (n : ℕ) (b : Allocation) → get x.tenants ns ≡ Some t → get t.allocations n ≡ Some b →
    ComesFrom x ns t n b
comes_same x s ns t n b is at = record {
  tenant = t;
  is_tenant = is;
  row = b;
  is_row = at;
  same = refl;
  live = λ live. live;
  permitted = λ live allowed. allowed;
  index = itself t.index;
  evaluations = itself t.evaluation_number;
  number = itself t.allocation_number;
  created = (s.allocation ns t n b is at).created;
  modified = (s.allocation ns t n b is at).modified;
}

module _ (w x : World) (old : IsAllocated w) (s : IsAllocated x) (same : SameIndex w x) where
  module _ (ns : Name) (t o : Tenant) (is : get x.tenants ns ≡ Some t) (was : get w.tenants ns ≡ Some o) where
    up : t.index ≤ o.index + 1
    up = more t.index o.index (le_same t.index o.index (same ns o t was is))

    created_below : (n : ℕ) → created_at (o.index + 1) (get o.allocations n) (λ (a : Allocation). a.create_index) ≤ o.index + 1
    created_below n = by (get o.allocations n) refl
      where
        by : (a : Option Allocation) → get o.allocations n ≡ a → created_at (o.index + 1) a (λ (a : Allocation). a.create_index) ≤ o.index + 1
        by None _ = itself (o.index + 1)
        by (Some a) at = more a.create_index o.index (old.allocation ns o n a was at).created

    row_from : (n : ℕ) (a : Allocation) → get t.allocations n ≡ Some a → (b : Bool)
        → ComesFrom x ns (stamped (o.index + 1) o t) n
        (cond b (record a {
          create_index = created_at (o.index + 1) (get o.allocations n) (λ (a : Allocation). a.create_index);
          modify_index =
              o.index + 1;
        }) a)
    row_from n a at true = record {
      tenant = t;
      is_tenant = is;
      row = a;
      is_row = at;
      same = refl;
      live = λ live. live;
      permitted = λ live allowed. allowed;
      index = up;
      evaluations = itself t.evaluation_number;
      number = itself t.allocation_number;
      created = created_below n;
      modified = itself (o.index + 1);
    }
    row_from n a at false = record {
      tenant = t;
      is_tenant = is;
      row = a;
      is_row = at;
      same = refl;
      live = λ live. live;
      permitted = λ live allowed. allowed;
      index = up;
      evaluations = itself t.evaluation_number;
      number = itself t.allocation_number;
      created = le_then a.create_index t.index (o.index + 1) (s.allocation ns t n a is at).created up;
      modified = le_then a.modify_index t.index (o.index + 1) (s.allocation ns t n a is at).modified up;
    }

    stamped_from : (n : ℕ) (b : Allocation) → get (stamped (o.index + 1) o t).allocations n ≡ Some b → ComesFrom x ns (stamped (o.index + 1) o t) n b
    stamped_from n b at =
        let y = row_of_map numbers_ one_number (stamped_allocation (o.index + 1) o) t.allocations n b at in
        subst (ComesFrom x ns (stamped (o.index + 1) o t) n) y.2 (row_from n y.0 y.1 (changes_allocation o n y.0))

  tenant_from : (ns : Name) (t : Tenant) → get x.tenants ns ≡ Some t → (o : Option Tenant) → get w.tenants ns ≡ o → (n : ℕ) (b : Allocation) →
      get (stamp_tenant o t).allocations n ≡ Some b → ComesFrom x ns (stamp_tenant o t) n b
  unfolding stamp_tenant
  tenant_from ns t is None was n b at = comes_same x s ns t n b is at
  tenant_from ns t is (Some o) was n b at = (elim (is_touched o t) as (λ c. get (cond c (stamped (o.index + 1) o t) t).allocations n ≡ Some b →
      ComesFrom x ns (cond c (stamped (o.index + 1) o t) t) n b) [
        | true ↦ stamped_from ns t o is was n b
        | false ↦ comes_same x s ns t n b is
      ]) at

  stamp_from : IsFrom x (stamp w x)
  unfolding stamp
  stamp_from ns t' n b is at =
      let y = row_of_map names one_name (λ ns t. stamp_tenant (get w.tenants ns) t) x.tenants ns t' is in
      subst (λ t'. get t'.allocations n ≡ Some b → ComesFrom x ns t' n b) y.2 (tenant_from ns y.0 y.1 (get w.tenants ns) refl n b) at

  stamp_nodes : (pool name : Name) → node_at (stamp w x) pool name ≡ node_at x pool name
  unfolding stamp
  stamp_nodes pool name = refl

  stamp_allocated : IsAllocated (stamp w x)
  stamp_allocated = allocated_from x (stamp w x) s stamp_from (nodes_stay x (stamp w x) stamp_nodes) (nodes_hold x (stamp w x) s stamp_nodes)

pub settle_allocated : (w w' : World) → IsAllocated w → Allocates w w' → IsAllocated (settle w w')
unfolding settle
settle_allocated w w' old s = stamp_allocated w y old (allocated_on w' y s.allocated on nodes) index
  where
    x : World
    x = wake (woken w w') w'

    y : World
    y = number_releases w w' x

    on : Onward Goes w' y
    on = onward_then Goes goes_still goes_then w' x y (wakes_on (woken w w') w') (releases_on w w' x)

    nodes : (pool name : Name) → node_at y pool name ≡ node_at w' pool name
    nodes pool name = releases_nodes w w' x pool name ∙ wakes_nodes (woken w w') w' pool name

    index : SameIndex w y
    index ns o t was is = let l = on ns t is in l.2.lasts.index ∙ s.index ns o l.0 was l.1

-- Who stands on a pool is of its side, and so are the victims of its nodes.
use Rattle.std.specs.Prelude.{◌≡◌, ℕ, Bool, true, false, cond, T, List, [], ◌∷◌, Option, Some, None, ◌&&◌, filter, filter_map, flat_map, fold, option_map}
use Rattle.std.proofs.Common.{◌⊎◌, inl, inr, refl, sym, ap, subst, ◌∙◌}
use Rattle.std.specs.FinMap.{get, insert}
use Rattle.std.specs.List.{cons_option}
use Rattle.std.specs.Option.{option_map_or, option_and_then}
use Rattle.ns_types.specs.declared.allocation.Allocation.{Allocation}
use Rattle.ns_types.specs.declared.allocation.DesiredStatus.{DesiredStatus}
use Rattle.ns_types.specs.declared.plan.Eviction.{Eviction}
use Rattle.ns_types.specs.declared.plan.Placement.{Placement}
use Rattle.ns_types.specs.declared.snapshot.Snapshot.{Snapshot}
use Rattle.ns_types.specs.Working.Commit.{stop_all, node_name, counts, victims_in, victims_of, evict, evict_all, Victim, victim_at}
use Rattle.ns_types.specs.Isolation.{Part, alone_in}
use Rattle.ns_types.specs.State.Lists.{Each}
use Rattle.ns_types.specs.Settling.Making.{put_tenant, change_tenant, with_desired}
use Rattle.ns_types.specs.State.Names.{Name, same_name, same_number}
use Rattle.ns_types.specs.State.Rows.{World, Tenant, is_live, is_run, is_held, is_live_on}
use Rattle.ns_types.proofs.Decided.{victims_are}
use Rattle.ns_types.proofs.Lists.{each_map, not_both}
use Rattle.ns_types.proofs.Named.{names, one_name, numbers, one_number, same_name_is, first_of_both, second_of_both}
use Rattle.ns_types.proofs.Tables.{get-retain}
use Rattle.ns_types.proofs.TableRows.{row_of_insert}
use Rattle.ns_types.proofs.Elements.{each_passes, each_of, each_flat_map}
use Rattle.ns_audit.proofs.Alone.Chosen.{allocation_alone, GoesAlone, goes_change}
use Rattle.ns_audit.proofs.Alone.Summing.{StandsApart, NamesApart}

-- ---- rows that lose their live allocations alone

-- the record is kept, and what is live was so before
abbrev pub KeepsRow : Tenant → Tenant → Type 0
KeepsRow t t' = (t'.namespace ≡ t.namespace) × ((n : ℕ) (a : Allocation) → get t'.allocations n ≡ Some a → is_live a ≡ true → get t.allocations n ≡ Some a)

pub desired_keeps : (n : ℕ) (d : DesiredStatus) → is_run d ≡ false → (t : Tenant) → KeepsRow t (with_desired n d t)
desired_keeps n d ended t = by (get t.allocations n)
  where
    by : (o : Option Allocation) → KeepsRow t (option_map_or (λ a. record t { allocations = insert t.allocations n (record a { desired = d }) }) o t)
    by None = (refl, λ m a at live. at)
    by (Some old) = (refl, λ m a at live. here m a live (row_of_insert numbers one_number t.allocations n (record old { desired = d }) m a at))
      where
        here : (m : ℕ) (a : Allocation) → is_live a ≡ true → ((m ≡ n) × (record old { desired = d } ≡ a)) ⊎ (get t.allocations m ≡ Some a) →
            get t.allocations m ≡ Some a
        here m a live (inl e) = not_both (ap is_live e.1 ∙ live) (ap (λ r. r && is_held old.client) ended)
        here m a live (inr at) = at

stops_keep : (stops : List ℕ) (t : Tenant) → KeepsRow t (fold (λ x n. with_desired n DesiredStatus.Stop x) t stops)
stops_keep [] t = (refl, λ m a at live. at)
stops_keep (n ∷ stops) t =
    let one = desired_keeps n DesiredStatus.Stop refl t in
    let more = stops_keep stops (with_desired n DesiredStatus.Stop t) in
    (more.0 ∙ one.0, λ m a at live. one.1 m a (more.1 m a at live) live)

-- ---- standing

-- live allocations stand, and namespaces name quotas, on their side
pub record Standing (part : Part) (w : World) : Type 0 where
  pub stands : StandsApart part w
  pub names : NamesApart part w

pub change_stands : (part : Part) (ns : Name) (f : Tenant → Tenant) (w : World) → ((t : Tenant) → KeepsRow t (f t)) → Standing part w →
    Standing part (change_tenant ns f w)
change_stands part ns f w keeps s = by (get w.tenants ns) refl
  where
    by : (o : Option Tenant) → get w.tenants ns ≡ o → Standing part (option_map_or (λ t. put_tenant ns (f t) w) o w)
    by None is = s
    by (Some t) is = record {
      stands = λ k x n a k_is at live. stood k x n a at live (row_of_insert names one_name w.tenants ns (f t) k x k_is);
      names = λ k x q k_is at. named k x q at (row_of_insert names one_name w.tenants ns (f t) k x k_is);
    }
      where
        stood : (k : Name) (x : Tenant) (n : ℕ) (a : Allocation) → get x.allocations n ≡ Some a → is_live a ≡ true → ((k ≡ ns) × (f t ≡ x))
            ⊎ (get w.tenants k ≡ Some x) → part.pools a.pool ≡ part.spaces k
        stood k x n a at live (inl e) = s.stands ns t n a is ((keeps t).1 n a (ap (λ x. get x.allocations n) e.1 ∙ at) live) live ∙ ap part.spaces (sym e.0)
        stood k x n a at live (inr k_is) = s.stands k x n a k_is at live

        named : (k : Name) (x : Tenant) (q : Name) → x.namespace.quota ≡ Some q → ((k ≡ ns) × (f t ≡ x)) ⊎ (get w.tenants k ≡ Some x) →
            part.quotas q ≡ part.spaces k
        named k x q at (inl e) = s.names ns t q is (ap (λ n. n.quota) (sym (keeps t).0) ∙ ap (λ x. x.namespace.quota) e.1 ∙ at) ∙ ap part.spaces (sym e.0)
        named k x q at (inr k_is) = s.names k x q k_is at

pub stopped_stands : (part : Part) (ns : Name) (stops : List ℕ) (w : World) → Standing part w → Standing part (stop_all ns stops w)
stopped_stands part ns stops w s = change_stands part ns (λ t. fold (λ x n. with_desired n DesiredStatus.Stop x) t stops) w (stops_keep stops) s

pub evicted_stands : (part : Part) (vs : List Eviction) (w : World) → Standing part w → Standing part (evict_all w vs)
evicted_stands part [] w s = s
evicted_stands part (v ∷ vs) w s = evicted_stands part vs (evict w v)
    (change_stands part v.namespace (with_desired v.number DesiredStatus.Evict) w (desired_keeps v.number DesiredStatus.Evict refl) s)

-- ---- victims

module _ (part : Part) (w : World) (stands : StandsApart part w) (pool : Name) where
  -- what counts on a node of a pool is of the pool's side
  counts_side : (node : Name) (e : Eviction) → counts w pool node e ≡ true → part.spaces e.namespace ≡ part.pools pool
  unfolding counts
  counts_side node e c = by (get w.tenants e.namespace) refl c
    where
      row : (t : Tenant) → get w.tenants e.namespace ≡ Some t → (a : Option Allocation) → get t.allocations e.number ≡ a →
          option_map_or (λ a. is_live_on pool node a && same_number a.priority e.priority) a false ≡ true → part.spaces e.namespace ≡ part.pools pool
      row t is None at c = absurd (subst T (sym c) tt)
      row t is (Some a) at c =
          let on : is_live_on pool node a ≡ true = first_of_both (is_live_on pool node a) _ c in
          sym (stands e.namespace t e.number a is at (first_of_both (is_live a) _ on)) ∙
          ap part.pools (sym (same_name_is pool a.pool (first_of_both (same_name pool a.pool) _ (second_of_both (is_live a) _ on))))

      by : (t : Option Tenant) → get w.tenants e.namespace ≡ t → option_map_or (λ a. is_live_on pool node a && same_number a.priority e.priority)
          (option_and_then (λ t. get t.allocations e.number) t) false ≡ true → part.spaces e.namespace ≡ part.pools pool
      by None is c = absurd (subst T (sym c) tt)
      by (Some t) is c = row t is (get t.allocations e.number) refl c

  counts_alone : part.pools pool ≡ true → (node : Name) (e : Eviction) → counts w pool node e ≡ counts (alone_in part w) pool node e
  unfolding counts
  counts_alone mine node e = by (part.spaces e.namespace) refl (counts w pool node e) refl
    where
      by : (b : Bool) → part.spaces e.namespace ≡ b → (c : Bool) → counts w pool node e ≡ c → counts w pool node e ≡ counts (alone_in part w) pool node e
      by true own c _ = ap (λ o. option_map_or (λ a. is_live_on pool node a && same_number a.priority e.priority) o false)
          (sym (allocation_alone part w (e.namespace, e.number) own))
      by false other true c = not_both (counts_side node e c ∙ mine) other
      by false other false c = c ∙ sym (ap (λ o. option_map_or (λ a. is_live_on pool node a && same_number a.priority e.priority)
          (option_and_then (λ t. get t.allocations e.number) o) false)
          (get-retain names one_name w.tenants part.spaces e.namespace ∙ ap (λ b. cond b (get w.tenants e.namespace) None) other))

module _ (part : Part) (w : World) (stands : StandsApart part w) (kept : Snapshot) where
  pub victims_side : (placements : List Placement) → Each (λ e. part.spaces e.namespace ≡ part.pools kept.pool) (victims_of w kept placements)
  victims_side placements = each_flat_map (λ e. part.spaces e.namespace ≡ part.pools kept.pool) (victims_in w kept)
      (λ p. each_of (λ e. counts w kept.pool (node_name kept p.node) e ≡ true) (λ e. part.spaces e.namespace ≡ part.pools kept.pool)
      (λ e c. counts_side part w stands kept.pool (node_name kept p.node) e c)
      (filter (counts w kept.pool (node_name kept p.node)) p.evictions) (each_passes (counts w kept.pool (node_name kept p.node)) p.evictions)) placements

  pub victims_alone : part.pools kept.pool ≡ true → (placements : List Placement) → victims_of w kept placements ≡ victims_of (alone_in part w) kept placements
  victims_alone mine placements = λ i. flat_map (λ p. filter (λ e. counts_alone part w stands kept.pool mine (node_name kept p.node) e i) p.evictions)
      placements

pub evict_goes : (part : Part) (b : Bool) (vs : List Eviction) → Each (λ e. part.spaces e.namespace ≡ b) vs → GoesAlone part b (λ w. evict_all w vs)
evict_goes part b [] h w = elim b as (λ b. alone_in part w ≡ cond b (alone_in part w) (alone_in part w)) [ true ↦ refl | false ↦ refl ]
evict_goes part b (v ∷ vs) h w = evict_goes part b vs h.1 (evict w v) ∙
    ap (λ x. cond b (evict_all x vs) x) (goes_change part b v.namespace h.0 (with_desired v.number DesiredStatus.Evict) w)
    ∙ elim b as (λ b. cond b (evict_all (cond b (evict (alone_in part w) v) (alone_in part w)) vs) (cond b (evict (alone_in part w) v) (alone_in part w))
    ≡ cond b (evict_all (evict (alone_in part w) v) vs) (alone_in part w)) [ true ↦ refl | false ↦ refl ]

-- ---- the rows of victims

pub rows_side : (P : Name → Type 0) (w : World) (vs : List Eviction) → Each (λ e. P e.namespace) vs → Each (λ v. P v.0) (filter_map (victim_at w) vs)
rows_side P w vs h = victims_are (λ v. P v.0) w vs (each_map (λ e side a at. side) vs h)

pub rows_alone : (part : Part) (w : World) (vs : List Eviction) → Each (λ e. part.spaces e.namespace ≡ true) vs →
    filter_map (victim_at (alone_in part w)) vs ≡ filter_map (victim_at w) vs
rows_alone part w [] h = refl
rows_alone part w (e ∷ vs) h = λ i. cons_option {X = Victim}
    (option_map (λ a. (e.namespace, (e.number, a))) (allocation_alone part w (e.namespace, e.number) h.0 i)) (rows_alone part w vs h.1 i)

-- The world once all parts of a settled change are in.
use Rattle.std.specs.Prelude.{◌≡◌, ◌+◌, ◌<◌, ◌≤◌, ◌^◌, Bool, true, false, List, [], ◌∷◌, Option, Some, None, is_some, length, nat_lt, option_map}
use Rattle.std.proofs.Common.{refl, sym, ap, ◌∙◌, subst}
use Rattle.std.specs.FinMap.{FinMap, get, same_map}
use Rattle.std.specs.Option.{option_and_then, unwrap_or}
use Rattle.keyed.specs.Over.{HasRoomFor}
use Rattle.keyed.specs.Table.{row_at}
use Rattle.keyed.proofs.Over.{get-over}
use Rattle.ns_types.specs.declared.event.Event.{Event}
use Rattle.ns_types.specs.declared.node.Class.{Class}
use Rattle.ns_types.specs.declared.records.Quota.{Quota}
use Rattle.ns_types.specs.Settling.Settle.{after_quota_release, after_release}
use Rattle.ns_types.specs.State.Names.{Name, ByName, has_name, name_cmp}
use Rattle.ns_types.specs.State.Rows
use Rattle.ns_types.specs.Steps.{greatest, is_past_bound, is_pool_past_bound, is_tenant_past_bound}
use Rattle.ns_types.proofs.Lists.{left_none, not_both, right_none}
use Rattle.ns_types.proofs.Named.{names, one_name}
use Rattle.ns_types.proofs.Tables.{get-map_rows, none_of_any}
use Rattle.ns_types.proofs.Tests.{not_Some, same_Some}
use Rattle.ns_change.specs.declared.change.PoolChange.{PoolChange}
use Rattle.ns_change.specs.declared.change.Settled.{Settled}
use Rattle.ns_change.specs.declared.change.SettledTenant.{SettledTenant}
use Rattle.ns_change.specs.Changed.{changed_list, changed_pool, changed_quota, perhaps}
use Rattle.ns_change.specs.Settled.{classes_in, settled_tenant, settled_world}
use Rattle.ns_settlement.specs.Committed.{CanPublish, CanRise, Fits, HasNodeRoom, HaveClassRoom, KeepsNodes, settled_quotas}
use Rattle.ns_settlement.specs.Committed.{numbered_pools, raised_pool, raised_quota, released_quotas, releases, settled_pools, with_classes}
use Rattle.ns_settlement.specs.Indexed.{ForgetsChanged, IsRightFor, allocation_in}
use Rattle.ns_settlement.specs.Owners.{EachChanged, changed_owners, owners}
use Rattle.ns_settlement.proofs.Owned.{get-changed, get-owners}
use Rattle.ns_settlement.proofs.Reserved.{is_some_class, releases_is}
use Rattle.ns_live_index.specs.declared.live.Live.{Live}
use Rattle.ns_live_index.specs.Index.{IsRight, KeepsKeys}
use Rattle.ns_live_index.specs.Naming.{AreKept, AreKeptFor, KeepsNames, quota_in, use_in}
use Rattle.ns_live_index.specs.Shown.{KeepsShown, ShowsUnmoved, kept_in, live_row}
use Rattle.ns_live_index.specs.Until.{row_until}
use Rattle.ns_live_index.proofs.Kept.{index_kept}
use Rattle.ns_live_index.proofs.Unmoved.{shown_still, still_right}
use Rattle.ns_tables.specs.declared.tables.PoolRows.{PoolRows}
use Rattle.ns_tables.specs.declared.tables.QuotaRows.{QuotaRows}
use Rattle.ns_tables.specs.declared.tables.Tables.{Tables}
use Rattle.ns_tables.specs.World.{pool_of, quota_of, tenant_of, world_of}
use Rattle.ns_types.proofs.Bounds.{within_bound}

-- ---- quotas

raised_one : (b : Bool) (r : Option QuotaRows) → option_map quota_of (option_map (raised_quota b) r) ≡ option_map (after_quota_release b) (option_map
    quota_of r)
raised_one b None = refl
raised_one true (Some quota) = refl
raised_one false (Some quota) = refl

pub quotas_are : (released : List Name) (old new : FinMap name_cmp (Option QuotaRows)) →
    ((name : Name) → row_at new name ≡ option_map (raised_quota (has_name released name)) (row_at old name)) →
    owners quota_of new ≡ released_quotas released (owners quota_of old)
quotas_are released old new risen = same_map names one_name _ _ (λ q. get-owners quota_of new q ∙ ap (option_map quota_of) (risen q)
    ∙ raised_one (has_name released q) (row_at old q) ∙ ap (option_map (after_quota_release (has_name released q))) (sym (get-owners quota_of old q))
    ∙ sym (get-map_rows names one_name (λ name quota. after_quota_release (has_name released name) quota) (owners quota_of old) q))

-- records go over those of quotas, released or not
pub records_are : (x : FinMap name_cmp (Option Quota)) (released : List Name) (m : ByName Rows.QuotaRows) →
    changed_owners changed_quota x (released_quotas released m) ≡ settled_quotas x released m
records_are x released m = same_map names one_name _ _ (λ q. get-changed changed_quota x (released_quotas released m) q
    ∙ ap (option_map (perhaps changed_quota (row_at x q)))
    (get-map_rows names one_name (λ name quota. after_quota_release (has_name released name) quota) m q)
    ∙ by (row_at x q) (has_name released q) (get m q)
    ∙ sym (get-map_rows names one_name (λ name quota. after_quota_release (has_name released name) (perhaps changed_quota (row_at x name) quota)) m q))
  where
    by : (x : Option Quota) (b : Bool) (r : Option Rows.QuotaRows) → option_map (perhaps changed_quota x) (option_map (after_quota_release b) r)
        ≡ option_map (λ quota. after_quota_release b (perhaps changed_quota x quota)) r
    by x b None = refl
    by None b (Some quota) = refl
    by (Some x) true (Some quota) = refl
    by (Some x) false (Some quota) = refl

-- ---- pools

abbrev Pools : Type 0
Pools = FinMap name_cmp (Option PoolRows)

-- the release numbers of pools with released classes have risen
abbrev pub Risen : List (Name × Class) → Pools → Pools → Type 0
Risen rooms old new = (name : Name) → row_at new name ≡ option_map (raised_pool (releases rooms name)) (row_at old name)

settled_one : (classes : List Class) (b : Bool) → b ≡ is_some_class classes → (x : Option PoolChange) (r : Option PoolRows) →
    option_map (perhaps changed_pool x) (option_map (with_classes classes) (option_map pool_of (option_map (raised_pool b) r)))
    ≡ option_map (λ pool. after_release classes (perhaps changed_pool x pool)) (option_map pool_of r)
settled_one classes b e x None = refl
settled_one [] true e x (Some pool) = not_both refl e
settled_one [] false e None (Some pool) = refl
settled_one [] false e (Some x) (Some pool) = refl
settled_one (class ∷ classes) false e x (Some pool) = not_both refl (sym e)
settled_one (class ∷ classes) true e None (Some pool) = refl
settled_one (class ∷ classes) true e (Some x) (Some pool) = refl

module _ (x : FinMap name_cmp (Option PoolChange)) (rooms : List (Name × Class)) (old risen : Pools) (is : Risen rooms old risen) where
  pub pools_are : (numbered new : Pools) → owners pool_of numbered ≡ numbered_pools rooms (owners pool_of risen) →
      owners pool_of new ≡ changed_owners changed_pool x (owners pool_of numbered) → owners pool_of new ≡ settled_pools x rooms (owners pool_of old)
  pools_are numbered new put changed = changed ∙ ap (changed_owners changed_pool x) put ∙ same_map names one_name _ _ (λ q.
      get-changed changed_pool x (numbered_pools rooms (owners pool_of risen)) q
      ∙ ap (option_map (perhaps changed_pool (row_at x q)))
      (get-map_rows names one_name (λ name pool. with_classes (classes_in name rooms) pool) (owners pool_of risen) q
      ∙ ap (option_map (with_classes (classes_in q rooms))) (get-owners pool_of risen q ∙ ap (option_map pool_of) (is q)))
      ∙ settled_one (classes_in q rooms) (releases rooms q) (releases_is q rooms) (row_at x q) (row_at old q)
      ∙ ap (option_map (λ pool. after_release (classes_in q rooms) (perhaps changed_pool (row_at x q) pool))) (sym (get-owners pool_of old q))
      ∙ sym (get-map_rows names one_name (λ name pool. after_release (classes_in name rooms) (perhaps changed_pool (row_at x name) pool)) (owners pool_of
      old) q))

  pub classes_stay : HaveClassRoom rooms old → HaveClassRoom rooms risen
  classes_stay room name pool at = by (row_at old name) refl (sym (is name) ∙ at)
    where
      by : (r : Option PoolRows) → row_at old name ≡ r → option_map (raised_pool (releases rooms name)) r ≡ Some pool →
          length (classes_in name rooms) ≤ pool.classes.room
      by None was e = absurd (not_Some pool e)
      by (Some a) was e = subst (λ p. length (classes_in name rooms) ≤ p.classes.room) (same_Some _ pool e) (either (releases rooms name) (room name a was))
        where
          either : (b : Bool) → length (classes_in name rooms) ≤ a.classes.room → length (classes_in name rooms) ≤ (raised_pool b a).classes.room
          either true h = h
          either false h = h

  pub nodes_kept : KeepsNodes old risen
  nodes_kept name = ap (option_map (λ pool. pool.nodes)) (is name) ∙ by (releases rooms name) (row_at old name)
    where
      by : (b : Bool) (r : Option PoolRows) → option_map (λ pool. pool.nodes) (option_map (raised_pool b) r) ≡ option_map (λ pool. pool.nodes) r
      by b None = refl
      by true (Some pool) = refl
      by false (Some pool) = refl

pub nodes_stay : (x : FinMap name_cmp (Option PoolChange)) (old new : Pools) → KeepsNodes old new → EachChanged HasNodeRoom x old → EachChanged HasNodeRoom
    x new
nodes_stay x old new keeps room name change pool at there = by (row_at old name) refl
    (sym (keeps name) ∙ ap (option_map (λ pool. pool.nodes)) there)
  where
    by : (r : Option PoolRows) → row_at old name ≡ r → option_map (λ pool. pool.nodes) r ≡ Some pool.nodes → HasRoomFor change.nodes pool.nodes
    by None was e = absurd (not_Some pool.nodes e)
    by (Some a) was e = subst (HasRoomFor change.nodes) (same_Some _ _ e) (room name change a at was)

-- a release number stays with the pool that is seen
pub rise_stays : (rooms : List (Name × Class)) (old new : Pools) → owners pool_of new ≡ owners pool_of old → CanRise (λ pool. pool.release) (releases rooms)
    old →
    CanRise (λ pool. pool.release) (releases rooms) new
rise_stays rooms old new same can name pool at chosen = by (row_at old name) refl
    (sym (get-owners pool_of old name) ∙ ap (λ m. get m name) (sym same) ∙ get-owners pool_of new name ∙ ap (option_map pool_of) at)
  where
    by : (r : Option PoolRows) → row_at old name ≡ r → option_map pool_of r ≡ Some (pool_of pool) → pool.release + 1 < 2 ^ 64
    by None was e = absurd (not_Some _ e)
    by (Some a) was e = subst (λ p. p.release + 1 < 2 ^ 64) (same_Some (pool_of a) (pool_of pool) e) (can name a was chosen)

-- ---- the world

pub same_world : (old new : Tables) → owners tenant_of new.tenants ≡ owners tenant_of old.tenants → owners pool_of new.pools ≡ owners pool_of old.pools →
    new.quotas ≡ old.quotas → new.ready.items ≡ old.ready.items → new.plans.items ≡ old.plans.items → new.blocked.items ≡ old.blocked.items →
    world_of new ≡ world_of old
unfolding world_of
same_world old new tenants pools quotas ready plans blocked i = record {
  tenants = tenants i;
  pools = pools i;
  quotas = owners quota_of (quotas i);
  ready = ready i;
  plans = plans i;
  blocked = blocked i;
}

pub settled_is : (s : Settled) (old new : Tables) → owners tenant_of new.tenants ≡ changed_owners settled_tenant s.tenants (owners tenant_of old.tenants) →
    owners pool_of new.pools ≡ settled_pools s.pools s.rooms (owners pool_of old.pools) →
    owners quota_of new.quotas ≡ settled_quotas s.quotas s.released (owners quota_of old.quotas) → new.ready.items ≡ changed_list old.ready.items s.ready →
    new.plans.items ≡ changed_list old.plans.items s.plans → new.blocked.items ≡ changed_list old.blocked.items s.blocked →
    world_of new ≡ settled_world (world_of old) s
unfolding world_of settled_world
settled_is s old new tenants pools quotas ready plans blocked i = record {
  tenants = tenants i;
  pools = pools i;
  quotas = quotas i;
  ready = ready i;
  plans = plans i;
  blocked = blocked i;
}

-- ---- the index

-- a release leaves the nodes of its pool, and a change those that it does not name
released_nodes : (classes : List Class) (pool : Rows.PoolRows) → (after_release classes pool).nodes ≡ pool.nodes
released_nodes [] pool = refl
released_nodes (class ∷ classes) pool = refl

node_kept : (x : FinMap name_cmp (Option PoolChange)) (rooms : List (Name × Class)) (m : ByName Rows.PoolRows) (pool name : Name) →
    ((change : PoolChange) → row_at x pool ≡ Some change → get change.nodes name ≡ None) →
    option_and_then (λ p. get p.nodes name) (get (settled_pools x rooms m) pool) ≡ option_and_then (λ p. get p.nodes name) (get m pool)
node_kept x rooms m pool name idle = ap (option_and_then (λ p. get p.nodes name)) (get-map_rows names one_name
    (λ name pool. after_release (classes_in name rooms) (perhaps changed_pool (row_at x name) pool)) m pool) ∙ by (get m pool)
  where
    unchanged : (p : Rows.PoolRows) (r : Option PoolChange) → row_at x pool ≡ r → get (perhaps changed_pool r p).nodes name ≡ get p.nodes name
    unchanged p None is = refl
    unchanged p (Some change) is = get-over names one_name p.nodes change.nodes name ∙ ap (λ o. unwrap_or o (get p.nodes name)) (idle change is)

    by : (p : Option Rows.PoolRows) → option_and_then (λ p. get p.nodes name)
        (option_map (λ p. after_release (classes_in pool rooms) (perhaps changed_pool (row_at x pool) p)) p) ≡ option_and_then (λ p. get p.nodes name) p
    by None = refl
    by (Some p) = ap (λ nodes. get nodes name) (released_nodes (classes_in pool rooms) (perhaps changed_pool (row_at x pool) p))
        ∙ unchanged p (row_at x pool) refl

pub index_is : (s : Settled) (old new : Tables) (before mid live : Live) →
    owners tenant_of new.tenants ≡ changed_owners settled_tenant s.tenants (owners tenant_of old.tenants) →
    owners pool_of new.pools ≡ settled_pools s.pools s.rooms (owners pool_of old.pools) →
    (IsRightFor (owners tenant_of old.tenants) before → IsRightFor (changed_owners settled_tenant s.tenants (owners tenant_of old.tenants)) mid) →
    ShowsUnmoved (allocation_in (owners tenant_of old.tenants)) (allocation_in (changed_owners settled_tenant s.tenants (owners tenant_of old.tenants)))
    before mid → (AreKeptFor (owners tenant_of old.tenants) before →
    AreKeptFor (changed_owners settled_tenant s.tenants (owners tenant_of old.tenants)) mid) →
    KeepsKeys mid live → ForgetsChanged s.pools mid live → KeepsNames mid live →
    IsRight (world_of old) before → IsRight (world_of new) live
unfolding world_of
index_is s old new before mid live rows pools followed unmoved kept keys forgets still right = record {
  index = subst (λ tenants. IsRightFor tenants live) (sym rows) (index_kept (allocation_in (changed_owners settled_tenant s.tenants
      (owners tenant_of old.tenants))) mid live keys (followed right.index));
  shown = shown_still (world_of old) (world_of new) before live right (λ pool name node is.
      let g = forgets.nodes pool name node is in
      let h = unmoved.nodes pool name node g.0 in (
        h.0,
        (
          (λ key. ap (λ tenants. live_row pool name (allocation_in tenants key)) rows ∙ h.1 key),
          ap (λ m. option_and_then (λ p. get p.nodes name) (get m pool)) pools ∙ node_kept s.pools s.rooms (owners pool_of old.pools) pool name g.1,
        ),
      )) (λ pool name seen is.
      let h = unmoved.bases pool name seen (forgets.bases pool name seen is) in
      (h.0, λ key. ap (λ tenants. row_until pool name seen.last (allocation_in tenants key)) rows ∙ h.1 key));
  quotas = subst (λ tenants. AreKeptFor tenants live) (sym rows)
      (subst (AreKept (quota_in (changed_owners settled_tenant s.tenants (owners tenant_of old.tenants)))
      (use_in (changed_owners settled_tenant s.tenants (owners tenant_of old.tenants)))) (sym still) (kept right.quotas));
}

pub index_stays : (old new : Tables) (before live : Live) → world_of new ≡ world_of old → KeepsKeys before live → KeepsShown before live →
    IsRight (world_of old) before → IsRight (world_of new) live
index_stays old new before live same keys shown right = subst (λ w. IsRight w live) (sym same)
    (still_right (world_of old) before live keys shown.1 (λ pool name. ap (λ s. kept_in s pool name) shown.0) right)

-- ---- numbers within their bounds

published : (t : Rows.Tenant) (rows : SettledTenant) → is_some rows.events ≡ true → (settled_tenant t rows).index ≡ t.index + 1
published t rows e = by rows.events e
  where
    by : (events : Option (List Event)) → is_some events ≡ true → (settled_tenant t (record rows { events = events })).index ≡ t.index + 1
    by None e = not_both e refl
    by (Some events) e = refl

module _ (s : Settled) (t : Tables) (fits : Fits (world_of t) s) where
  tenant_fits : (name : Name) (row : Rows.Tenant) → get (changed_owners settled_tenant s.tenants (owners tenant_of t.tenants)) name ≡ Some row →
      is_tenant_past_bound row ≡ false
  unfolding world_of settled_world is_past_bound
  tenant_fits name row at = none_of_any one_name (λ _ t. is_tenant_past_bound t) _ name row (left_none _ _ (left_none _ _ fits)) at

  pool_fits : (name : Name) (row : Rows.PoolRows) → get (settled_pools s.pools s.rooms (owners pool_of t.pools)) name ≡ Some row → is_pool_past_bound row ≡
      false
  unfolding world_of settled_world is_past_bound
  pool_fits name row at = none_of_any one_name (λ _ p. is_pool_past_bound p) _ name row (right_none _ _ (left_none _ _ fits)) at

  quota_fits : (name : Name) (row : Rows.QuotaRows) → get (settled_quotas s.quotas s.released (owners quota_of t.quotas)) name ≡ Some row →
      nat_lt greatest row.release ≡ false
  unfolding world_of settled_world is_past_bound
  quota_fits name row at = none_of_any one_name (λ _ q. nat_lt greatest q.release) _ name row (right_none _ _ fits) at

  pub can_publish : EachChanged CanPublish s.tenants t.tenants
  can_publish name x row at there some = subst (λ n. n < 2 ^ 64) (published (tenant_of row) x some) (within_bound _ (left_none _ _ (left_none _ _
      (tenant_fits name (settled_tenant (tenant_of row) x) (get-changed settled_tenant s.tenants (owners tenant_of t.tenants) name
      ∙ (λ i. option_map (perhaps settled_tenant (at i)) ((get-owners tenant_of t.tenants name ∙ ap (option_map tenant_of) there) i)))))))

  pub pools_rise : CanRise (λ pool. pool.release) (releases s.rooms) t.pools
  pools_rise name pool at chosen = by (classes_in name s.rooms) refl (sym (releases_is name s.rooms) ∙ chosen)
    where
      by : (classes : List Class) → classes_in name s.rooms ≡ classes → is_some_class classes ≡ true → pool.release + 1 < 2 ^ 64
      by [] e some = not_both some refl
      by (class ∷ classes) e some = subst (λ n. n < 2 ^ 64)
          (kept (row_at s.pools name))
          (within_bound _ (left_none _ _ (pool_fits name (after_release (class ∷ classes) (perhaps changed_pool (row_at s.pools name) (pool_of pool)))
          (get-map_rows names one_name (λ name pool. after_release (classes_in name s.rooms) (perhaps changed_pool (row_at s.pools name) pool)) (owners
          pool_of t.pools) name
          ∙ (λ i. option_map (λ pool. after_release (e i) (perhaps changed_pool (row_at s.pools name) pool))
          ((get-owners pool_of t.pools name ∙ ap (option_map pool_of) at) i))))))
        where
          kept : (x : Option PoolChange) → (perhaps changed_pool x (pool_of pool)).release + 1 ≡ pool.release + 1
          kept None = refl
          kept (Some x) = refl

  pub quotas_rise : CanRise (λ quota. quota.release) (has_name s.released) t.quotas
  quotas_rise name quota at chosen = subst (λ n. n < 2 ^ 64) (kept (row_at s.quotas name))
      (within_bound _ (quota_fits name (after_quota_release true (perhaps changed_quota (row_at s.quotas name) (quota_of quota)))
      (get-map_rows names one_name (λ name quota. after_quota_release (has_name s.released name) (perhaps changed_quota (row_at s.quotas name) quota))
      (owners quota_of t.quotas) name
      ∙ (λ i. option_map (λ quota. after_quota_release (chosen i) (perhaps changed_quota (row_at s.quotas name) quota))
      ((get-owners quota_of t.quotas name ∙ ap (option_map quota_of) at) i)))))
    where
      kept : (x : Option Quota) → (perhaps changed_quota x (quota_of quota)).release + 1 ≡ quota.release + 1
      kept None = refl
      kept (Some x) = refl

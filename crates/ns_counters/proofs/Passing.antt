-- What is looked up of counters, as the program finds it.
use Rattle.std.specs.Prelude.{◌≡◌, ◌&&◌, Bool, true, false, List, [], ◌∷◌, Option, Some, None, option_map}
use Rattle.std.proofs.Common.{refl, ap, ◌∙◌}
use Rattle.std.specs.Option.{option_map_or}
use Rattle.std.specs.List.{list_any}
use Rattle.std.specs.FinMap.{entries, get}
use Rattle.keyed.specs.Table.{row_at}
use Rattle.ns_types.specs.State.Names.{Name, Key}
use Rattle.ns_types.specs.State.Rows.{World, Tenant, evaluation_at}
use Rattle.ns_types.proofs.Lists.{any_alike, each, not_both}
use Rattle.ns_change.specs.declared.change.Change.{Change}
use Rattle.ns_change.specs.declared.change.PoolChange.{PoolChange}
use Rattle.ns_change.specs.declared.change.TenantChange.{TenantChange}
use Rattle.ns_change.specs.Changed.{changed}
use Rattle.ns_counters.specs.Bounds.{is_at_bound, is_place_past, passes_in, places_pass, quota_passes, room_passes, shows_awake}
use Rattle.ns_counters.specs.Bounds.{tenant_passes, waking_passes, waking_passes_in}
use Rattle.ns_types.specs.declared.node.Class.{Class}
use Rattle.ns_tables.specs.declared.tables.PoolRows.{PoolRows}
use Rattle.ns_tables.specs.declared.tables.QuotaRows.{QuotaRows}
use Rattle.ns_tables.specs.declared.tables.Tables.{Tables}
use Rattle.ns_tables.specs.declared.tables.TenantRows.{TenantRows}
use Rattle.ns_tables.specs.World.{pool_of, quota_of, tenant_of, world_of}
use Rattle.ns_tables.proofs.World.{pool_at, tenant_at}
use Rattle.ns_release.specs.Released.{does_wake, is_woken, released_quotas, released_rooms, stays}
use Rattle.ns_release.proofs.Released.{quota_at}
use Rattle.ns_release.proofs.Rooms.{any_none}
use Rattle.ns_release.proofs.Woken.{wakes_nothing}
use Rattle.std.proofs.Math.Bool.{and-false}

-- a test of the namespace's row
pub at_tenant : (t : Tables) (name : Name) (passes : Tenant → Bool) (r : Option TenantRows) → row_at t.tenants name ≡ r →
    option_map_or passes (get (world_of t).tenants name) false ≡ option_map_or passes (option_map tenant_of r) false
at_tenant t name passes r is = ap (λ o. option_map_or passes o false) (tenant_at t name ∙ ap (option_map tenant_of) is)

module _ (t : Tables) (name : Name) where
  pub quota_bound : (r : Option QuotaRows) → row_at t.quotas name ≡ r →
      quota_passes (world_of t) name ≡ option_map_or (λ q. is_at_bound q.release) (option_map quota_of r) false
  quota_bound r is = ap (λ o. option_map_or (λ q. is_at_bound q.release) o false) (quota_at t name ∙ ap (option_map quota_of) is)

  pub pool_bound : (class : Class) (r : Option PoolRows) → row_at t.pools name ≡ r →
      room_passes (world_of t) (name, class) ≡ option_map_or (λ p. is_at_bound p.release) (option_map pool_of r) false
  pool_bound class r is = ap (λ o. option_map_or (λ p. is_at_bound p.release) o false) (pool_at t name ∙ ap (option_map pool_of) is)

  pub places_by : (r : Option PoolRows) → row_at t.pools name ≡ r → (x : Option PoolChange) (y : PoolChange) → x ≡ Some y →
      places_pass (world_of t) (name, x) ≡ option_map_or (λ _. list_any is_place_past (entries y.nodes)) (option_map pool_of r) false
  places_by r is x y at = ap (λ x. places_pass (world_of t) (name, x)) at ∙
      ap (λ o. option_map_or (λ _. list_any is_place_past (entries y.nodes)) o false) (pool_at t name ∙ ap (option_map pool_of) is)

  pub tenant_by : (c : Change) (r : Option TenantRows) → row_at t.tenants name ≡ r → (x : Option TenantChange) (y : TenantChange) → x ≡ Some y →
      tenant_passes (world_of t) c (name, x) ≡ option_map_or (passes_in (world_of t) c name y) (option_map tenant_of r) false
  tenant_by c r is x y at = ap (λ x. tenant_passes (world_of t) c (name, x)) at ∙
      at_tenant t name (passes_in (world_of t) c name y) r is

-- a list without elements
pub empty_by_any : {A : Type 0} (xs : List A) → list_any (λ _. true) xs ≡ false → xs ≡ []
empty_by_any [] is = refl
empty_by_any (x ∷ xs) is = not_both refl is

-- where nothing is released, none wakes
module _ (w : World) (c : Change) where
  pub none_wakes : released_rooms w c ≡ [] → released_quotas w c ≡ [] → list_any (waking_passes w c) w.blocked ≡ false
  none_wakes no_rooms no_quotas = any_alike (waking_passes w c) (λ _. false) w.blocked (each _ (λ key. by key (get w.tenants key.0)) w.blocked) ∙
      any_none w.blocked
    where
      sleeps : (key : Key) → does_wake w c key ≡ false
      sleeps key = (λ i. is_woken w c.blocked (no_rooms i) (no_quotas i) key) ∙ ap (λ b. stays c.blocked key && b) (wakes_nothing w key) ∙
          and-false (stays c.blocked key)

      by : (key : Key) (t : Option Tenant) → option_map_or (waking_passes_in w c key) t false ≡ false
      by key None = refl
      by key (Some t) = ap (λ b. is_at_bound t.index && (b && shows_awake t key.1 (evaluation_at (changed w c) key))) (sleeps key) ∙
          and-false (is_at_bound t.index)

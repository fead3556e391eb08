-- Where no blocked evaluation is of a namespace whose index is at its bound, none that wakes passes an index.
use Rattle.std.specs.Prelude.{◌≡◌, Bool, false, ◌&&◌, ◌||◌, List, [], ◌∷◌, Option, Some, None, option_map}
use Rattle.std.proofs.Common.{refl, ap, ◌∙◌}
use Rattle.std.specs.Option.{option_map_or}
use Rattle.std.specs.List.{list_any}
use Rattle.std.specs.FinMap.{get}
use Rattle.keyed.specs.Owned.{NoneAtBound}
use Rattle.keyed.specs.Table.{row_at}
use Rattle.ns_types.specs.declared.node.Class.{Class}
use Rattle.ns_types.specs.State.Names.{Name, Key}
use Rattle.ns_types.specs.State.Rows.{World, Tenant}
use Rattle.ns_types.proofs.Lists.{left_none, right_none}
use Rattle.ns_change.specs.declared.change.Change.{Change}
use Rattle.ns_change.specs.declared.change.TenantChange.{TenantChange}
use Rattle.ns_counters.specs.Bounds.{any_last_index, is_at_bound, is_last_index, is_number_past, passes_in, room_passes}
use Rattle.ns_counters.specs.Bounds.{tenant_passes, touches_asleep, waking_passes}
use Rattle.ns_counters.specs.Given.{given_waking_passes}
use Rattle.ns_counters.proofs.Passing.{at_tenant, pool_bound, tenant_by}
use Rattle.ns_tables.specs.declared.tables.PoolRows.{PoolRows}
use Rattle.ns_tables.specs.declared.tables.Tables.{Tables}
use Rattle.ns_tables.specs.declared.tables.TenantRows.{TenantRows}
use Rattle.ns_tables.specs.World.{pool_of, tenant_of, world_of}

module _ (w : World) (none : any_last_index w ≡ false) where
  -- a test of keys that asks first whether the index of the key's namespace is at its bound
  none_last : (p : Key → Tenant → Bool) →
      list_any (λ key. option_map_or (λ t. is_at_bound t.index && p key t) (get w.tenants key.0) false) w.blocked ≡ false
  none_last p = by w.blocked none
    where
      one : (key : Key) (o : Option Tenant) → option_map_or (λ t. is_at_bound t.index) o false ≡ false →
          option_map_or (λ t. is_at_bound t.index && p key t) o false ≡ false
      one key None out = refl
      one key (Some t) out = ap (λ b. b && p key t) out

      by : (keys : List Key) → list_any (λ key. is_last_index w key.0) keys ≡ false →
          list_any (λ key. option_map_or (λ t. is_at_bound t.index && p key t) (get w.tenants key.0) false) keys ≡ false
      by [] out = refl
      by (key ∷ keys) out = (λ i. one key (get w.tenants key.0) (left_none _ _ out) i || by keys (right_none (is_last_index w key.0) _ out) i)

  pub no_waking_passes : (c : Change) → list_any (waking_passes w c) w.blocked ≡ false
  no_waking_passes c = none_last _

  pub none_given_passes : (rooms : List (Name × Class)) (quotas : List Name) → list_any (given_waking_passes w rooms quotas) w.blocked ≡ false
  none_given_passes rooms quotas = none_last _

-- where no namespace's index is at its bound, as the table of namespaces tells it
module _ (t : Tables) (none : NoneAtBound (λ x. is_at_bound x.index) t.tenants) where
  pub no_last_index : any_last_index (world_of t) ≡ false
  no_last_index = by (world_of t).blocked
    where
      one : (ns : Name) (o : Option TenantRows) → row_at t.tenants ns ≡ o → option_map_or (λ x. is_at_bound x.index) (option_map tenant_of o) false ≡ false
      one ns None is = refl
      one ns (Some x) is = none ns x is

      last : (ns : Name) → is_last_index (world_of t) ns ≡ false
      last ns = at_tenant t ns (λ x. is_at_bound x.index) (row_at t.tenants ns) refl ∙ one ns (row_at t.tenants ns) refl

      by : (keys : List Key) → list_any (λ key. is_last_index (world_of t) key.0) keys ≡ false
      by [] = refl
      by (key ∷ keys) = (λ i. last key.0 i || by keys i)

-- where no pool's release number is at its bound, as the table of pools has it, none passes its bound
module _ (t : Tables) (none : NoneAtBound (λ p. is_at_bound p.release) t.pools) where
  pub no_room_passes : (rooms : List (Name × Class)) → list_any (room_passes (world_of t)) rooms ≡ false
  no_room_passes [] = refl
  no_room_passes (room ∷ rooms) = (λ i. last i || no_room_passes rooms i)
    where
      one : (o : Option PoolRows) → row_at t.pools room.0 ≡ o → option_map_or (λ p. is_at_bound p.release) (option_map pool_of o) false ≡ false
      one None is = refl
      one (Some p) is = none room.0 p is

      last : room_passes (world_of t) room ≡ false
      last = pool_bound t room.0 room.1 (row_at t.pools room.0) refl ∙ one (row_at t.pools room.0) refl

-- where no namespace's index and no number of the change is at its bound, neither passes it
module _ (t : Tables) (none : NoneAtBound (λ x. is_at_bound x.index) t.tenants) (c : Change) (ns : Name) (slot : Option TenantChange) where
  pub no_tenant_passes : (x : TenantChange) → slot ≡ Some x → is_number_past x ≡ false → tenant_passes (world_of t) c (ns, slot) ≡ false
  no_tenant_passes x is below = tenant_by t ns c (row_at t.tenants ns) refl slot x is ∙ by (row_at t.tenants ns) refl
    where
      by : (o : Option TenantRows) → row_at t.tenants ns ≡ o → option_map_or (passes_in (world_of t) c ns x) (option_map tenant_of o) false ≡ false
      by None at = refl
      by (Some row) at = λ i. below i || (none ns row at i && touches_asleep (world_of t) c ns (tenant_of row) x)

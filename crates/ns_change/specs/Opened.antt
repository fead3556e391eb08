-- A namespace's change, taken out of the step's change to be put back.
use Rattle.std.specs.Prelude.{◌≡◌, IsTrue, Option, Some, None}
use Rattle.std.specs.FinMap.{get, insert}
use Rattle.keyed.specs.Table.{has_slot}
use Rattle.ns_types.specs.Settling.Making.{put_pool, put_tenant}
use Rattle.ns_types.specs.State.Names.{Name}
use Rattle.ns_types.specs.State.Rows.{PoolRows, Tenant}
use Rattle.ns_change.specs.declared.change.Change.{Change}
use Rattle.ns_change.specs.declared.change.PoolChange.{PoolChange}
use Rattle.ns_change.specs.declared.change.TenantChange.{TenantChange}
use Rattle.ns_tables.specs.declared.tables.Tables.{Tables}
use Rattle.ns_change.specs.Changed.{changed_pool, changed_tenant}
use Rattle.ns_change.specs.Changed.{view}

abbrev pub with_tenant : Name → TenantChange → Change → Change
with_tenant ns y c = record c { tenants = insert c.tenants ns (Some y) }

-- x is the namespace's change, and c without it is left; whichever change y is put back there, the world has it
pub record IsOpen (t : Tables) (c : Change) (ns : Name) (x : TenantChange) (left : Change) : Type 0 where
  pub base : Tenant
  pub seen : get (view t c).tenants ns ≡ Some (changed_tenant base x)
  pub slot : IsTrue (has_slot left.tenants ns)
  pub closes : (y : TenantChange) → view t (with_tenant ns y left) ≡ put_tenant ns (changed_tenant base y) (view t c)

abbrev pub Opened : Tables → Change → Name → Option TenantChange → Change → Type 0
Opened t c ns None left = (get (view t c).tenants ns ≡ None) × (left ≡ c)
Opened t c ns (Some x) left = IsOpen t c ns x left

-- ---- a pool's change

abbrev pub with_pool : Name → PoolChange → Change → Change
with_pool name y c = record c { pools = insert c.pools name (Some y) }

pub record IsOpenPool (t : Tables) (c : Change) (name : Name) (x : PoolChange) (left : Change) : Type 0 where
  pub base : PoolRows
  pub seen : get (view t c).pools name ≡ Some (changed_pool base x)
  pub slot : IsTrue (has_slot left.pools name)
  pub closes : (y : PoolChange) → view t (with_pool name y left) ≡ put_pool name (changed_pool base y) (view t c)

abbrev pub OpenedPool : Tables → Change → Name → Option PoolChange → Change → Type 0
OpenedPool t c name None left = (get (view t c).pools name ≡ None) × (left ≡ c)
OpenedPool t c name (Some x) left = IsOpenPool t c name x left

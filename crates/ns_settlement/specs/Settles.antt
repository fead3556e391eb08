-- What the end of a step makes of a change, and when an index would pass its bound.
use Rattle.std.specs.Prelude.{◌≡◌, ◌+◌, Bool, false, ◌&&◌, if◌then◌else◌, nat_lt, Option, Some, None, option_map}
use Rattle.std.specs.Option.{option_map_or}
use Rattle.std.specs.List.{list_any}
use Rattle.std.specs.FinMap.{entries, get}
use Rattle.keyed.specs.Table.{row_at}
use Rattle.ns_types.specs.State.Names.{Name}
use Rattle.ns_types.specs.State.Rows.{World, Tenant}
use Rattle.ns_types.specs.State.Tables.{table_of}
use Rattle.ns_types.specs.Settling.Settle.{wake}
use Rattle.ns_types.specs.Steps.{greatest}
use Rattle.ns_change.specs.declared.change.Change.{Change}
use Rattle.ns_change.specs.declared.change.Settled.{Settled}
use Rattle.ns_change.specs.declared.change.SettledTenant.{SettledTenant}
use Rattle.ns_change.specs.declared.change.TenantChange.{TenantChange}
use Rattle.ns_change.specs.Changed.{changed, perhaps}
use Rattle.ns_change.specs.Settled.{settled_tenant}
use Rattle.ns_release.specs.Released.{released_quotas, released_rooms, woken_keys}
use Rattle.ns_settlement.specs.Stamped.{changed_events, stamped_rows, stamped_tenant, touches}

-- the changed rows with their indexes, and their events
abbrev pub shown : Tenant → TenantChange → SettledTenant
shown t x = record { rows = stamped_rows t x; events = Some (changed_events t x) }

abbrev pub unshown : TenantChange → SettledTenant
unshown x = record { rows = x; events = None }

-- with indexes and events if b holds, and without otherwise
abbrev pub shown_if : Bool → Tenant → TenantChange → SettledTenant
shown_if b t x = if b then shown t x else unshown x

abbrev pub settled_slot : World → Name → Option TenantChange → Option SettledTenant
settled_slot w ns x = option_map (λ x. option_map_or (λ t. shown_if (touches t x) t x) (get w.tenants ns) (unshown x)) x

-- what the end of a step makes of its own change c, where `awake` is c once evaluations have woken
abbrev pub settled_by : World → Change → Change → Settled
settled_by w c awake = record {
  tenants = table_of (settled_slot w) awake.tenants;
  pools = awake.pools;
  quotas = awake.quotas;
  ready = awake.ready;
  plans = awake.plans;
  blocked = awake.blocked;
  rooms = released_rooms w c;
  released = released_quotas w c;
}

abbrev pub AreStamped : World → Change → Settled → Type 0
AreStamped w c s = (ns : Name) (t : Tenant) → get w.tenants ns ≡ Some t →
    perhaps settled_tenant (row_at s.tenants ns) t ≡ perhaps stamped_tenant (row_at c.tenants ns) t

-- c is the step's own change, `awake` is c once evaluations have woken, and s is all that the step changes
pub record IsSettled (w : World) (c awake : Change) (s : Settled) : Type 0 where
  pub woke : changed w awake ≡ wake (woken_keys w c) (changed w c)
  pub stamped : AreStamped w awake s
  pub pools : s.pools ≡ awake.pools
  pub quotas : s.quotas ≡ awake.quotas
  pub ready : s.ready ≡ awake.ready
  pub plans : s.plans ≡ awake.plans
  pub blocked : s.blocked ≡ awake.blocked
  pub rooms : s.rooms ≡ released_rooms w c
  pub released : s.released ≡ released_quotas w c

-- ---- an index at its bound

-- replies show a changed row of the namespace, and its index would pass the bound
abbrev pub is_last : World → Name → Option TenantChange → Bool
is_last w ns x = option_map_or (λ x. option_map_or (λ t. touches t x && nat_lt greatest (t.index + 1))
    (get w.tenants ns) false) x false

abbrev pub any_last : World → Change → Bool
any_last w c = list_any (λ e. is_last w e.0 e.1) (entries c.tenants)

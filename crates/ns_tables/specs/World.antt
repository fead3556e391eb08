-- The world that the tables hold: their rows, without vacant slots and room.
use Rattle.std.specs.FinMap.{from_entries}
use Rattle.keyed.specs.Table.{rows}
use Rattle.ns_types.specs.State.Names.{class_cmp}
use Rattle.ns_types.specs.State.Rows.{World, Tenant, PoolRows, QuotaRows}
use Rattle.ns_types.specs.State.Tables.{table_of}
use Rattle.ns_tables.specs.declared.tables.PoolRows.{PoolRows as StoredPool}
use Rattle.ns_tables.specs.declared.tables.QuotaRows.{QuotaRows as StoredQuota}
use Rattle.ns_tables.specs.declared.tables.Tables.{Tables}
use Rattle.ns_tables.specs.declared.tables.TenantRows.{TenantRows}

abbrev pub tenant_of : TenantRows → Tenant
tenant_of t = record {
  namespace = t.namespace;
  index = t.index;
  evaluation_number = t.evaluation_number;
  allocation_number = t.allocation_number;
  jobs = rows t.jobs;
  evaluations = rows t.evaluations.slots;
  allocations = rows t.allocations.slots;
  workers = rows t.workers;
  events = t.events;
}

abbrev pub pool_of : StoredPool → PoolRows
pool_of p = record {
  pool = p.pool;
  release = p.release;
  classes = from_entries {R = class_cmp} p.classes.items;
  nodes =
      rows p.nodes;
}

abbrev pub quota_of : StoredQuota → QuotaRows
quota_of q = record { quota = q.quota; release = q.release }

unfoldable pub world_of : Tables → World
world_of t = record {
  tenants = table_of (λ _ x. tenant_of x) (rows t.tenants);
  pools = table_of (λ _ x. pool_of x) (rows t.pools);
  quotas = table_of (λ _ x. quota_of x) (rows t.quotas);
  ready = t.ready.items;
  plans = t.plans.items;
  blocked = t.blocked.items;
}

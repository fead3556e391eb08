-- What administrators' commands change in the world, and what they test in it.
use Rattle.std.specs.Prelude.{ℕ, Bool, true, false, not, ◌&&◌, ◌||◌}
use Rattle.std.specs.FinMap.{get, insert, remove}
use Rattle.std.specs.Option.{option_map_or}
use Rattle.ns_types.specs.declared.allocation.Allocation.{Allocation}
use Rattle.ns_types.specs.declared.evaluation.Evaluation.{Evaluation}
use Rattle.ns_types.specs.declared.job.Job.{Job}
use Rattle.ns_types.specs.declared.records.Namespace.{Namespace}
use Rattle.ns_types.specs.declared.records.Pool.{Pool}
use Rattle.ns_types.specs.declared.records.Quota.{Quota}
use Rattle.ns_types.specs.declared.reply.Content.{Content}
use Rattle.ns_types.specs.declared.reply.NamespaceShown.{NamespaceShown}
use Rattle.ns_types.specs.declared.reply.PoolShown.{PoolShown}
use Rattle.ns_types.specs.declared.reply.QuotaShown.{QuotaShown}
use Rattle.ns_types.specs.Working.Worker.{Worker}
use Rattle.ns_types.specs.Access.Sharing.{is_confined, overlaps, permits}
use Rattle.ns_types.specs.Asking.Admins.{forbids_put, has_live, has_open, looks_to_pool, names_pool}
use Rattle.ns_types.specs.Asking.Admins.{with_namespace, with_pool, with_quota}
use Rattle.ns_types.specs.Settling.Making.{put_pool, put_tenant}
use Rattle.ns_types.specs.State.Names.{Name, same_name}
use Rattle.ns_types.specs.State.Rows.{World, Tenant, QuotaRows, is_live, is_open}
use Rattle.ns_types.specs.State.Sums.{names_quota}
use Rattle.ns_types.specs.State.Tables.{any_row}
use Rattle.ns_tables.specs.declared.tables.PoolRows.{PoolRows}
use Rattle.ns_tables.specs.declared.tables.QuotaRows.{QuotaRows as StoredQuota}
use Rattle.ns_tables.specs.declared.tables.TenantRows.{TenantRows}
use Rattle.ns_tables.specs.World.{tenant_of}

-- ---- changes of a row

abbrev pub with_namespace_put : Name → Namespace → World → World
with_namespace_put name namespace w = put_tenant name (with_namespace namespace (get w.tenants name)) w

-- the namespace is removed with all that it has
abbrev pub without_namespace : Name → World → World
without_namespace name w = record w { tenants = remove w.tenants name }

abbrev pub with_pool_put : Name → Pool → World → World
with_pool_put name pool w = put_pool name (with_pool pool (get w.pools name)) w

abbrev pub with_quota_written : Name → QuotaRows → World → World
with_quota_written name q w = record w { quotas = insert w.quotas name q }

-- the quota's record is written, and its release number stays
abbrev pub with_quota_put : Name → Quota → World → World
with_quota_put name quota w = with_quota_written name (with_quota quota (get w.quotas name)) w

-- ---- what is found by name

abbrev pub permits_in : Name → Name → World → Bool
permits_in name pool w = option_map_or (λ t. permits t.namespace pool) (get w.tenants name) false

abbrev pub is_confined_in : Name → World → Bool
is_confined_in name w = option_map_or (λ t. is_confined t.namespace) (get w.tenants name) false

-- the namespace is there, and what it has forbids the record
abbrev pub forbids_in : Name → Namespace → World → Bool
forbids_in name namespace w = option_map_or (forbids_put namespace) (get w.tenants name) false

-- the other namespace names the quota of the namespace
abbrev pub shares_quota : Namespace → Namespace → Bool
shares_quota namespace other = option_map_or (λ quota. names_quota quota other) namespace.quota false

-- ---- what a namespace has

-- the namespace has a job of a pool that passes
abbrev pub has_job_in : (Name → Bool) → Tenant → Bool
has_job_in passes t = any_row (λ _ job. passes job.document.pool) t.jobs

-- the namespace has an open evaluation of a pool that passes
abbrev pub has_open_in : (Name → Bool) → Tenant → Bool
has_open_in passes t = any_row (λ _ e. is_open e.status && passes e.pool) t.evaluations

-- the namespace has a kept snapshot of a pool that passes
abbrev pub has_kept_in : (Name → Bool) → Tenant → Bool
has_kept_in passes t = any_row (λ _ worker. option_map_or (λ kept. passes kept.pool) worker.kept false) t.workers

-- the namespace has a live allocation on a pool that passes
abbrev pub has_live_in : (Name → Bool) → Tenant → Bool
has_live_in passes t = any_row (λ _ a. is_live a && passes a.pool) t.allocations

-- the namespace has a job, an open evaluation or a live allocation
abbrev pub has_work : Tenant → Bool
has_work t = any_row (λ _ job. true) t.jobs || has_open t || has_live t

-- ---- tests of a row with its key

abbrev pub job_in : (Name → Bool) → Name × Job → Bool
job_in passes e = passes e.1.document.pool

abbrev pub is_unfinished : ℕ × Evaluation → Bool
is_unfinished e = is_open e.1.status

abbrev pub open_in : (Name → Bool) → ℕ × Evaluation → Bool
open_in passes e = is_open e.1.status && passes e.1.pool

abbrev pub kept_in : (Name → Bool) → ℕ × Worker → Bool
kept_in passes e = option_map_or (λ kept. passes kept.pool) e.1.kept false

abbrev pub lives : ℕ × Allocation → Bool
lives e = is_live e.1

abbrev pub live_in : (Name → Bool) → ℕ × Allocation → Bool
live_in passes e = is_live e.1 && passes e.1.pool

-- the namespace's record, a job, an open evaluation or a kept snapshot names the pool
abbrev pub tenant_uses_pool : Name → Name × TenantRows → Bool
tenant_uses_pool pool e = names_pool pool e.1.namespace || looks_to_pool (same_name pool) (tenant_of e.1)

abbrev pub overlaps_other : Name → Namespace → Name × TenantRows → Bool
overlaps_other ns namespace e = not (same_name e.0 ns) && overlaps namespace e.1.namespace

-- ---- what lists show

abbrev pub namespace_shown : Name × TenantRows → NamespaceShown
namespace_shown e = record { name = e.0; row = e.1.namespace }

abbrev pub quota_shown : Name × StoredQuota → QuotaShown
quota_shown e = record { name = e.0; row = e.1.quota }

abbrev pub content_of_quota : Name → Quota → Content
content_of_quota name quota = Content.Quota (record { name = name; row = quota })

abbrev pub pool_shown : Name × PoolRows → PoolShown
pool_shown e = record { name = e.0; row = e.1.pool }

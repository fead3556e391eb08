-- The requests of administrators about namespaces, quotas and pools.
-- Nomad's pages on the namespaces, quotas and node pools HTTP API.
use Rattle.std.specs.Prelude.{ℕ, Bool, true, false, not, ◌&&◌, ◌||◌, [], Option, Some, None, filter, map, nat_le}
use Rattle.std.specs.Option.{option_map_or, option_eq}
use Rattle.std.specs.List.{list_all}
use Rattle.std.specs.FinMap.{get, insert, remove, contains_key, len, entries, empty}
use Rattle.ns_types.specs.declared.records.Namespace.{Namespace}
use Rattle.ns_types.specs.declared.records.Pool.{Pool}
use Rattle.ns_types.specs.declared.records.Quota.{Quota}
use Rattle.ns_types.specs.declared.refusal.Member.TheVariants as Member
use Rattle.ns_types.specs.declared.refusal.Refusal.TheVariants as Refusal
use Rattle.ns_types.specs.declared.reply.Content.{Content}
use Rattle.ns_types.specs.Settling.Making.{put_tenant, put_pool}
use Rattle.ns_types.specs.Settling.Releases.{changes_limits}
use Rattle.ns_types.specs.State.Names.{Name, ByName, same_name, has_name, default_name}
use Rattle.ns_types.specs.Settling.Outcome.{Outcome, Done, unless, found, in_tenant, in_pool}
use Rattle.ns_types.specs.State.Rows.{World, Tenant, PoolRows, QuotaRows, is_live, is_open}
use Rattle.ns_types.specs.Access.Sharing.{permits}
use Rattle.ns_types.specs.State.Sums.{names_quota}
use Rattle.ns_types.specs.State.Tables.{any_row}

abbrev pub most_rows : ℕ
most_rows = 10000

-- the name is new, and the table has as many rows as it may have
abbrev pub is_full : {X : Type 0} → ByName X → Name → Bool
is_full table name = not (contains_key table name) && nat_le most_rows (len table)

-- ---- what a namespace uses

abbrev pub has_open : Tenant → Bool
has_open t = any_row (λ _ e. is_open e.status) t.evaluations

abbrev pub has_live : Tenant → Bool
has_live t = any_row (λ _ a. is_live a) t.allocations

-- a job, an open evaluation or a worker's snapshot of the namespace names a pool that passes
abbrev pub looks_to_pool : (Name → Bool) → Tenant → Bool
looks_to_pool passes t = any_row (λ _ job. passes job.document.pool) t.jobs
    || any_row (λ _ e. is_open e.status && passes e.pool) t.evaluations
    || any_row (λ _ worker. option_map_or (λ kept. passes kept.pool) worker.kept false) t.workers

-- a job, an open evaluation, a worker's snapshot or a live allocation of the namespace names a pool that passes
abbrev pub uses_pool : (Name → Bool) → Tenant → Bool
uses_pool passes t = looks_to_pool passes t || any_row (λ _ a. is_live a && passes a.pool) t.allocations

-- ---- namespaces

abbrev pub new_tenant : Namespace → Tenant
new_tenant namespace = record {
  namespace = namespace;
  index = 0;
  evaluation_number = 0;
  allocation_number = 0;
  jobs = empty;
  evaluations = empty;
  allocations = empty;
  workers = empty;
  events = [];
}

abbrev pub with_namespace : Namespace → Option Tenant → Tenant
with_namespace namespace None = new_tenant namespace
with_namespace namespace (Some t) = record t { namespace = namespace }

-- the namespace may use the pool with its old record, and not with the new one
abbrev pub is_withdrawn : Namespace → Namespace → Name → Bool
is_withdrawn old namespace pool = permits old pool && not (permits namespace pool)

abbrev pub same_quota : Namespace → Namespace → Bool
same_quota a b = option_eq same_name a.quota b.quota

-- the put takes away a pool that the namespace uses, or changes its quota while it has open evaluations or live allocations
abbrev pub forbids_put : Namespace → Tenant → Bool
forbids_put namespace t = uses_pool (is_withdrawn t.namespace namespace) t
    || not (same_quota t.namespace namespace) && (has_open t || has_live t)

abbrev pub lacks_quota : World → Namespace → Bool
lacks_quota w namespace = option_map_or (λ q. not (contains_key w.quotas q)) namespace.quota false

abbrev pub lacks_pool : World → Name → Bool
lacks_pool w pool = not (contains_key w.pools pool)

abbrev pub lacks_allowed : World → Namespace → Bool
lacks_allowed w namespace = option_map_or (λ allowed. not (list_all (contains_key w.pools) allowed))
    namespace.allowed false

unfoldable pub put_namespace : Name → Namespace → World → Outcome World
put_namespace name namespace w =
    unless (lacks_quota w namespace) (Refusal.BadField Member.Quota) (
    unless (lacks_pool w namespace.default_pool) (Refusal.BadField Member.Default) (
    unless (lacks_allowed w namespace) (Refusal.BadField Member.Allowed) (
    unless (option_map_or (forbids_put namespace) (get w.tenants name) false) Refusal.InUse (
    unless (is_full w.tenants name) Refusal.Full (
    Done Content.Written (put_tenant name (with_namespace namespace (get w.tenants name)) w))))))

-- a namespace is deleted only without jobs, open evaluations and live allocations; its counters, rows and events go with it
unfoldable pub delete_namespace : Name → World → Outcome World
delete_namespace name w = in_tenant w name (λ t.
    unless (same_name name default_name) Refusal.InUse (
    unless (any_row (λ _ job. true) t.jobs || has_open t || has_live t) Refusal.InUse (
    Done Content.Written (record w { tenants = remove w.tenants name }))))

-- ---- quotas

abbrev pub with_quota : Quota → Option QuotaRows → QuotaRows
with_quota quota old = record { quota = quota; release = option_map_or (λ q. q.release) old 0 }

-- Neither the headline nor the wire rests on this: the code that puts a quota is specified by it.
-- the quota exists, and the put changes its limits
abbrev pub is_relimited : Name → Quota → World → Bool
is_relimited name quota w = option_map_or (λ old. changes_limits old (with_quota quota (Some old)))
    (get w.quotas name) false

unfoldable pub put_quota : Name → Quota → World → Outcome World
put_quota name quota w =
    unless (is_full w.quotas name) Refusal.Full (
    Done Content.Written (record w { quotas = insert w.quotas name (with_quota quota (get w.quotas name)) }))

unfoldable pub delete_quota : Name → World → Outcome World
delete_quota name w = found (get w.quotas name) (λ q.
    unless (any_row (λ _ t. names_quota name t.namespace) w.tenants) Refusal.InUse (
    Done Content.Written (record w { quotas = remove w.quotas name })))

abbrev pub list_quotas : World → Content
list_quotas w = Content.Quotas (map (λ q. record { name = q.0; row = q.1.quota }) (entries w.quotas))

abbrev pub read_quota : Name → World → Outcome World
read_quota name w = found (get w.quotas name) (λ q. Done (Content.Quota (record { name = name; row = q.quota })) w)

-- ---- pools

abbrev pub with_pool : Pool → Option PoolRows → PoolRows
with_pool pool None = record { pool = pool; release = 0; classes = empty; nodes = empty }
with_pool pool (Some old) = record old { pool = pool }

unfoldable pub put_pool_record : Name → Pool → World → Outcome World
put_pool_record name pool w =
    unless (is_full w.pools name) Refusal.Full (
    Done Content.Written (put_pool name (with_pool pool (get w.pools name)) w))

abbrev pub names_pool : Name → Namespace → Bool
names_pool pool namespace = same_name pool namespace.default_pool
    || option_map_or (λ allowed. has_name allowed pool) namespace.allowed false

-- a namespace names the pool as its default or as allowed, or a job, an open evaluation or a worker's snapshot of it does
abbrev pub is_pool_in_use : Name → World → Bool
is_pool_in_use name w = any_row (λ _ t. names_pool name t.namespace || looks_to_pool (same_name name) t) w.tenants

unfoldable pub delete_pool : Name → World → Outcome World
delete_pool name w = in_pool w name (λ pool.
    unless (same_name name default_name) Refusal.InUse (
    unless (any_row (λ _ node. true) pool.nodes || is_pool_in_use name w) Refusal.InUse (
    Done Content.Written (record w { pools = remove w.pools name }))))

-- ---- lists of the namespaces and pools that a secret may see

abbrev pub list_namespaces : (Name → Bool) → World → Content
list_namespaces shows w = Content.Namespaces
    (map (λ t. record { name = t.0; row = t.1.namespace }) (filter (λ t. shows t.0) (entries w.tenants)))

abbrev pub list_pools : (Name → Bool) → World → Content
list_pools shows w = Content.Pools (map (λ p. record { name = p.0; row = p.1.pool })
    (filter (λ p. shows p.0) (entries w.pools)))

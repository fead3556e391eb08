-- The index is right for the world as the step leaves it.
use Rattle.std.specs.Prelude.{◌≡◌, ℕ, List, Option, Some, None, is_some, option_map, unwrap_or}
use Rattle.std.proofs.Common.{refl, ap, sym, ◌∙◌}
use Rattle.std.specs.FinMap.{get}
use Rattle.std.specs.Option.{option_and_then}
use Rattle.keyed.specs.Table.{flat, row_at, rows}
use Rattle.keyed.proofs.Over.{get-over}
use Rattle.keyed.proofs.Tables.{get-rows}
use Rattle.ns_change.specs.Changed.{changed_tenant, perhaps}
use Rattle.ns_change.specs.Settled.{publish, settled_tenant, settled_world}
use Rattle.ns_change.specs.declared.change.Settled.{Settled}
use Rattle.ns_change.specs.declared.change.SettledTenant.{SettledTenant}
use Rattle.ns_queues.specs.Busy.{IsBusyIndex, busy_after, holds}
use Rattle.ns_queues.specs.declared.busy.BusyWorkers.{BusyWorkers}
use Rattle.ns_queues.proofs.BusyRows.{row_change}
use Rattle.ns_types.specs.declared.event.Event.{Event}
use Rattle.ns_types.specs.State.Names.{Name}
use Rattle.ns_types.specs.State.Rows.{Tenant, World}
use Rattle.ns_types.specs.Working.Looks.{worker_at}
use Rattle.ns_types.specs.Working.Worker.{Worker}
use Rattle.ns_types.proofs.Named.{names, numbers, one_name, one_number}
use Rattle.ns_types.proofs.Tables.{get-map_rows, get-table_of}
use Rattle.ns_tables.specs.declared.tables.Tables.{Tables}
use Rattle.ns_tables.specs.declared.tables.TenantRows.{TenantRows}
use Rattle.ns_tables.specs.World.{tenant_of, world_of}

abbrev worker_in : ℕ → Option Tenant → Option Worker
worker_in n t = option_and_then (λ t. get t.workers n) t

-- events change no worker
published_same : (events : Option (List Event)) (t : Tenant) → (perhaps publish events t).workers ≡ t.workers
published_same None t = refl
published_same (Some events) t = refl

busy_over : (r : Option (Option Worker)) (was : Option Worker) → busy_after r (is_some was) ≡ is_some (unwrap_or r was)
busy_over None was = refl
busy_over (Some slot) was = refl

module _ (t : Tables) (s : Settled) where
  abbrev before : World
  before = world_of t

  abbrev after : World
  after = settled_world before s

  worker_before : (n : ℕ) (ns : Name) → worker_at before n ns ≡ worker_in n (option_map tenant_of (row_at t.tenants ns))
  unfolding world_of
  worker_before n ns = ap (worker_in n) (get-table_of names one_name (λ _ x. tenant_of x) (rows t.tenants) ns
      ∙ ap (option_map tenant_of) (get-rows names t.tenants ns))

  tenant_after : (ns : Name) → get after.tenants ns ≡ option_map (perhaps settled_tenant (row_at s.tenants ns)) (get before.tenants ns)
  unfolding settled_world
  tenant_after ns = get-map_rows names one_name (λ ns t. perhaps settled_tenant (row_at s.tenants ns) t) before.tenants ns

  tenant_before : (ns : Name) → get before.tenants ns ≡ option_map tenant_of (row_at t.tenants ns)
  unfolding world_of
  tenant_before ns = get-table_of names one_name (λ _ x. tenant_of x) (rows t.tenants) ns ∙ ap (option_map tenant_of) (get-rows names t.tenants ns)

  busy_then : (n : ℕ) (r : Option TenantRows) (x : Option (Option SettledTenant)) →
      busy_after (row_change r x n) (is_some (worker_in n (option_map tenant_of r)))
      ≡ is_some (worker_in n (option_map (perhaps settled_tenant (flat x)) (option_map tenant_of r)))
  busy_then n None None = refl
  busy_then n None (Some None) = refl
  busy_then n None (Some (Some x)) = refl
  busy_then n (Some t) None = refl
  busy_then n (Some t) (Some None) = refl
  busy_then n (Some t) (Some (Some x)) = busy_over (get x.rows.workers n) (get (rows t.workers) n)
      ∙ ap is_some (sym (get-over numbers one_number (rows t.workers) x.rows.workers n))
      ∙ ap (λ m. is_some (get m n)) (sym (published_same x.events (changed_tenant (tenant_of t) x.rows)))

  pub right_after : (old new : BusyWorkers) → IsBusyIndex before old →
      ((ns : Name) (n : ℕ) → holds new n ns ≡ busy_after (row_change (row_at t.tenants ns) (get s.tenants ns) n) (holds old n ns)) → IsBusyIndex after new
  right_after old new right follows n ns = follows ns n
      ∙ ap (busy_after (row_change (row_at t.tenants ns) (get s.tenants ns) n)) (right n ns ∙ ap (λ r. is_some (worker_in n r)) (tenant_before ns))
      ∙ busy_then n (row_at t.tenants ns) (get s.tenants ns)
      ∙ ap (λ r. is_some (worker_in n r)) (sym (tenant_after ns ∙ ap (option_map (perhaps settled_tenant (row_at s.tenants ns))) (tenant_before ns)))

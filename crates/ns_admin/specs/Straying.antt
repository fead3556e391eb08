-- Whether something of a namespace names a pool that is not in a list, and whether another namespace intrudes on the pools.
use Rattle.std.specs.Prelude.{ℕ, Bool, true, false, not, ◌&&◌, List}
use Rattle.std.specs.FinMap.{get}
use Rattle.std.specs.Option.{option_map_or}
use Rattle.ns_types.specs.declared.allocation.Allocation.{Allocation}
use Rattle.ns_types.specs.declared.evaluation.Evaluation.{Evaluation}
use Rattle.ns_types.specs.State.Names.{Name, has_name, same_name}
use Rattle.ns_types.specs.State.Rows.{World, Tenant, is_held, is_open}
use Rattle.ns_types.specs.State.Tables.{any_row}
use Rattle.ns_types.specs.Working.Worker.{Worker}
use Rattle.ns_types.specs.Access.Sharing.{intrudes, stays_within}
use Rattle.ns_tables.specs.declared.tables.TenantRows.{TenantRows}

-- ---- in a namespace

-- an open evaluation names a pool that is not in the list
abbrev pub has_evaluation_astray : List Name → Tenant → Bool
has_evaluation_astray pools t = any_row (λ _ e. is_open e.status && not (has_name pools e.pool)) t.evaluations

-- a kept snapshot names a pool that is not in the list
abbrev pub has_worker_astray : List Name → Tenant → Bool
has_worker_astray pools t =
    any_row (λ _ worker. option_map_or (λ kept. not (has_name pools kept.pool)) worker.kept false) t.workers

-- an allocation that the client has not ended names a pool that is not in the list
abbrev pub has_allocation_astray : List Name → Tenant → Bool
has_allocation_astray pools t = any_row (λ _ a. is_held a.client && not (has_name pools a.pool)) t.allocations

-- the namespace, if it is there, stays within these pools and quotas
abbrev pub stays_there : List Name → List Name → Name → World → Bool
stays_there pools quotas ns w = option_map_or (stays_within pools quotas) (get w.tenants ns) true

-- ---- tests of a row with its key

abbrev pub evaluation_strays : List Name → ℕ × Evaluation → Bool
evaluation_strays pools e = is_open e.1.status && not (has_name pools e.1.pool)

abbrev pub worker_strays : List Name → ℕ × Worker → Bool
worker_strays pools e = option_map_or (λ kept. not (has_name pools kept.pool)) e.1.kept false

abbrev pub allocation_strays : List Name → ℕ × Allocation → Bool
allocation_strays pools e = is_held e.1.client && not (has_name pools e.1.pool)

abbrev pub other_intrudes : Name → List Name → List Name → Name × TenantRows → Bool
other_intrudes ns pools quotas e = not (same_name e.0 ns) && intrudes pools quotas e.1.namespace

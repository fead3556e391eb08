-- A job that is put or taken away, and the evaluation that is made of it.
use Rattle.std.specs.Prelude.{◌≡◌, ℕ, ◌+◌, ◌<◌, ◌^◌, false, Option, Some, None, nat_lt, option_map}
use Rattle.std.proofs.Common.{refl, ap, sym, subst, ◌∙◌}
use Rattle.std.specs.Option.{option_map_or}
use Rattle.std.specs.FinMap.{get, insert}
use Rattle.keyed.specs.Table.{row_at}
use Rattle.ns_types.specs.declared.allocation.Allocation.{Allocation}
use Rattle.ns_types.specs.declared.allocation.DesiredStatus.TheVariants as DesiredStatus
use Rattle.ns_types.specs.declared.evaluation.Evaluation.{Evaluation}
use Rattle.ns_types.specs.Settling.Making.{change_tenant, make, make_in, put_tenant, with_desired, with_evaluation}
use Rattle.ns_types.specs.State.Names.{Name}
use Rattle.ns_types.specs.State.Rows.{World, Tenant}
use Rattle.ns_types.specs.Steps.{greatest}
use Rattle.ns_types.specs.Working.Queue.{queue}
use Rattle.ns_types.proofs.Lists.{right_none}
use Rattle.ns_types.proofs.Named.{names, one_name}
use Rattle.ns_types.proofs.TableRows.{get_put}
use Rattle.ns_types.proofs.Tests.{same_Some}
use Rattle.ns_change.specs.Changed.{HasEvaluationLeft}
use Rattle.ns_tables.specs.declared.tables.Tables.{Tables}
use Rattle.ns_tables.specs.declared.tables.TenantRows.{TenantRows}
use Rattle.ns_tables.specs.World.{tenant_of, world_of}
use Rattle.ns_tables.proofs.World.{tenant_at}
use Rattle.ns_jobs.specs.Counted.{passes_bound}
use Rattle.ns_jobs.specs.Made.{with_made}
use Rattle.ns_types.proofs.Gone.{insert_twice}
use Rattle.ns_types.proofs.Bounds.{within_bound}

-- ---- the namespace

module _ (t : Tables) (ns : Name) where
  pub there : (x : TenantRows) → row_at t.tenants ns ≡ Some x → get (world_of t).tenants ns ≡ Some (tenant_of x)
  there x is = tenant_at t ns ∙ ap (option_map tenant_of) is

  pub absent : row_at t.tenants ns ≡ None → get (world_of t).tenants ns ≡ None
  absent is = tenant_at t ns ∙ ap (option_map tenant_of) is

-- ---- its counters

module _ (w : World) (ns : Name) where
  pub left_here : (t : Tenant) → get w.tenants ns ≡ Some t → passes_bound t ≡ false → HasEvaluationLeft w ns
  left_here t at fits z is = subst (λ z. z.evaluation_number + 1 < 2 ^ 64) (same_Some _ _ (sym at ∙ is))
      (within_bound (t.evaluation_number + 1) (right_none (nat_lt greatest (t.index + 1)) _ fits))

  -- a change of its jobs leaves them
  pub still_left : (f : Tenant → Tenant) → ((t : Tenant) → (f t).evaluation_number ≡ t.evaluation_number) → HasEvaluationLeft w ns →
      HasEvaluationLeft (change_tenant ns f w) ns
  still_left f keeps left = by (get w.tenants ns) refl
    where
      by : (o : Option Tenant) → get w.tenants ns ≡ o → (z : Tenant) → get (option_map_or (λ t. put_tenant ns (f t) w) o w).tenants ns ≡ Some z →
          z.evaluation_number + 1 < 2 ^ 64
      by None at z is = left z is
      by (Some t) at z is = subst (λ n. n + 1 < 2 ^ 64) (sym (keeps t) ∙ ap (λ t. t.evaluation_number)
          (same_Some _ _ (sym (get_put names one_name w.tenants ns (f t)) ∙ is))) (left t at)

-- ---- what is made

module _ (w : World) (ns : Name) (t : Tenant) (at : get w.tenants ns ≡ Some t) (f : Tenant → Tenant) (e : Evaluation) where
  pub made_is : with_made ns f e w ≡ make_in ns e w (f t)
  made_is = ap (λ o. make ns (λ _. e) (option_map_or (λ t. put_tenant ns (f t) w) o w)) at
      ∙ ap (λ o. option_map_or (make_in ns e (put_tenant ns (f t) w)) o (put_tenant ns (f t) w)) (get_put names one_name w.tenants ns (f t))
      ∙ ap (λ m. queue (record w { tenants = m }) (ns, (f t).evaluation_number + 1))
      (insert_twice names one_name w.tenants ns (f t) (with_evaluation e (f t)))

  -- from a world that is the same
  pub made_over : (seen : World) → seen ≡ w → with_made ns f e seen ≡ make_in ns e w (f t)
  made_over seen same = ap (with_made ns f e) same ∙ made_is

-- ---- an allocation that is stopped

abbrev stopped_by : ℕ → Tenant → Option Allocation → Tenant
stopped_by n t o = option_map_or (λ a. record t { allocations = insert t.allocations n (record a { desired = DesiredStatus.Stop }) }) o t

-- the number of its last evaluation stays
pub stop_keeps : (n : ℕ) (t : Tenant) → (with_desired n DesiredStatus.Stop t).evaluation_number ≡ t.evaluation_number
stop_keeps n t = by (get t.allocations n)
  where
    by : (o : Option Allocation) → (stopped_by n t o).evaluation_number ≡ t.evaluation_number
    by None = refl
    by (Some a) = refl

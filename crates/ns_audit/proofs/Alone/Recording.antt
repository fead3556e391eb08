-- What a step does at its end leaves the records of namespaces.
use Rattle.std.specs.Prelude.{◌≡◌, true, false, cond, Option, Some, None, option_map}
use Rattle.std.proofs.Common.{refl, ap, ◌∙◌}
use Rattle.std.specs.FinMap.{get}
use Rattle.ns_types.specs.Access.Sharing.{namespace_at}
use Rattle.ns_types.specs.State.Names.{Name, ByName}
use Rattle.ns_types.specs.Settling.Releases.{woken}
use Rattle.ns_types.specs.State.Rows.{World, Tenant}
use Rattle.ns_types.specs.Settling.Settle.{unblocked_in, wake, number_releases, is_touched, stamped, stamp_tenant, stamp}
use Rattle.ns_types.specs.Settling.Settle.{settle}
use Rattle.ns_types.proofs.Named.{names, one_name}
use Rattle.ns_types.proofs.Queue.{queues_keep}
use Rattle.ns_types.proofs.Tables.{get-map_rows}
use Rattle.ns_types.specs.State.Tables.{map_rows}
use Rattle.std.specs.Prelude.{◌+◌}

-- rows changed without their record
pub record_kept : {X Y : Type 0} (f : Name → X → X) (kept : X → Y) → ((k : Name) (x : X) → kept (f k x) ≡ kept x) → (m : ByName X) (q : Name) →
    option_map kept (get (map_rows f m) q) ≡ option_map kept (get m q)
record_kept {X = X} f kept same m q = ap (option_map kept) (get-map_rows names one_name f m q) ∙ by (get m q)
  where
    by : (o : Option X) → option_map kept (option_map (f q) o) ≡ option_map kept o
    by None = refl
    by (Some x) = ap Some (same q x)

module _ (w x : World) where
  stamp_keeps : (old : Option Tenant) (t : Tenant) → (stamp_tenant old t).namespace ≡ t.namespace
  unfolding stamp_tenant
  stamp_keeps None t = refl
  stamp_keeps (Some o) t = elim (is_touched o t) as (λ b. (cond b (stamped (o.index + 1) o t) t).namespace ≡ t.namespace) [ true ↦ refl | false ↦ refl ]

  pub namespace_settled : (ns : Name) → namespace_at (settle w x) ns ≡ namespace_at x ns
  unfolding settle stamp number_releases wake
  namespace_settled ns = record_kept (λ ns t. stamp_tenant (get w.tenants ns) t) (λ (t : Tenant). t.namespace) (λ ns t. stamp_keeps (get w.tenants ns) t) _ ns
      ∙ ap (λ m. option_map (λ (t : Tenant). t.namespace) (get m ns)) (queues_keep (λ y. y.tenants) (λ y keys. refl) (woken w x) _)
      ∙ record_kept (unblocked_in (woken w x)) (λ (t : Tenant). t.namespace) (λ ns t. refl) x.tenants ns

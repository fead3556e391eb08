-- A row under a number of which a part is changed.
use Rattle.std.specs.Prelude.{◌≡◌, ℕ, Option, Some, None}
use Rattle.std.proofs.Common.{refl, sym, ap, ◌∙◌}
use Rattle.std.specs.Option.{option_map_or, option_and_then}
use Rattle.std.specs.Ordering.{nat_cmp}
use Rattle.std.specs.FinMap.{FinMap, get}
use Rattle.ns_types.specs.Settling.Making.{change_tenant, put_tenant}
use Rattle.ns_types.specs.State.Names.{Name}
use Rattle.ns_types.specs.State.Rows.{World, Tenant}
use Rattle.ns_types.proofs.Named.{names, one_name}
use Rattle.ns_types.proofs.Tables.{insert_same}
use Rattle.ns_change.specs.Changed.{row_in}

module _ {X : Type 0} (rows_of : Tenant → FinMap nat_cmp X) (put : ℕ → X → Tenant → Tenant) (n : ℕ) (g : X → X) (w : World) (ns : Name) where
  abbrev edited : Tenant → Tenant
  edited t = option_map_or (λ x. put n (g x) t) (get (rows_of t) n) t

  -- none is there, and nothing changes
  pub row_nowhere : row_in rows_of w ns n ≡ None → w ≡ change_tenant ns edited w
  row_nowhere is = by (get w.tenants ns) refl is
    where
      by : (r : Option Tenant) → get w.tenants ns ≡ r → option_and_then (λ t. get (rows_of t) n) r ≡ None →
          w ≡ option_map_or (λ t. put_tenant ns (edited t) w) r w
      by None at is = refl
      by (Some t) at is = (λ i. record w { tenants = sym (insert_same names one_name w.tenants ns t at) i }) ∙
          ap (λ r. put_tenant ns (option_map_or (λ x. put n (g x) t) r t) w) (sym is)

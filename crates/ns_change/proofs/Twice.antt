-- A namespace that is changed twice.
use Rattle.std.specs.Prelude.{◌≡◌, Option, Some, None}
use Rattle.std.proofs.Common.{refl, ap, ◌∙◌}
use Rattle.std.specs.Option.{option_map_or}
use Rattle.std.specs.FinMap.{get}
use Rattle.ns_types.specs.Settling.Making.{change_tenant, put_tenant}
use Rattle.ns_types.specs.State.Names.{Name}
use Rattle.ns_types.specs.State.Rows.{World, Tenant}
use Rattle.ns_types.proofs.Named.{names, one_name}
use Rattle.ns_types.proofs.TableRows.{get_put}
use Rattle.ns_types.proofs.Gone.{insert_twice}

pub changed_twice : (ns : Name) (f g : Tenant → Tenant) (w : World) →
    change_tenant ns f (change_tenant ns g w) ≡ change_tenant ns (λ t. f (g t)) w
changed_twice ns f g w = by (get w.tenants ns) refl
  where
    by : (r : Option Tenant) → get w.tenants ns ≡ r → change_tenant ns f (option_map_or (λ t. put_tenant ns (g t) w) r w)
        ≡ option_map_or (λ t. put_tenant ns (f (g t)) w) r w
    by None is = ap (λ o. option_map_or (λ t. put_tenant ns (f t) w) o w) is
    by (Some t) is =
        ap (λ o. option_map_or (λ x. put_tenant ns (f x) (put_tenant ns (g t) w)) o (put_tenant ns (g t) w))
        (get_put names one_name w.tenants ns (g t))
        ∙ (λ i. record w { tenants = insert_twice names one_name w.tenants ns (g t) (f (g t)) i })

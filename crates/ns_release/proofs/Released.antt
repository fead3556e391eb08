-- What a step releases, as the program finds it.
use Rattle.std.specs.Prelude.{◌≡◌, ℕ, Bool, true, false, not, ◌&&◌, if◌then◌else◌, List, [], ◌∷◌, ◌++◌, Option, Some, None, flat_map, option_map}
use Rattle.std.proofs.Common.{refl, sym, ap, ◌∙◌, append_assoc}
use Rattle.std.specs.Option.{option_map_or}
use Rattle.std.specs.FinMap.{entries, get}
use Rattle.keyed.specs.Table.{row_at, rows}
use Rattle.keyed.proofs.Tables.{get-rows}
use Rattle.ns_types.specs.declared.allocation.Allocation.{Allocation}
use Rattle.ns_types.specs.declared.records.Quota.{Quota}
use Rattle.ns_types.specs.Asking.Admins.{with_quota}
use Rattle.ns_types.specs.Settling.Releases.{changes_limits}
use Rattle.ns_types.specs.State.Names.{Name}
use Rattle.ns_types.specs.State.Rows.{Tenant, World, is_live}
use Rattle.ns_types.proofs.Named.{names, numbers, one_name}
use Rattle.ns_types.proofs.Tables.{get-table_of}
use Rattle.ns_change.specs.declared.change.TenantChange.{TenantChange}
use Rattle.ns_tables.specs.declared.tables.QuotaRows.{QuotaRows}
use Rattle.ns_tables.specs.declared.tables.Tables.{Tables}
use Rattle.ns_tables.specs.declared.tables.TenantRows.{TenantRows}
use Rattle.ns_release.specs.Released.{ended_among, ended_in, ended_list, ended_of, ended_one, relimits}
use Rattle.ns_tables.specs.World.{quota_of, tenant_of, world_of}
use Rattle.ns_tables.proofs.World.{tenant_at}

module _ (t : TenantRows) (n : ℕ) (row : Option Allocation) where
  pub ended_by : (r : Option Allocation) → row_at t.allocations.slots n ≡ r → (b : Bool) →
      option_map_or (λ a. is_live a && not (option_map_or is_live row false)) r false ≡ b
      → ended_one (tenant_of t) n row ≡ (if b then ended_list (tenant_of t) r else [])
  ended_by r at b is = ap (λ r. option_map_or (λ a. if is_live a && not (option_map_or is_live row false) then (t.namespace, a) ∷ [] else []) r [])
      (get-rows numbers t.allocations.slots n ∙ at) ∙ by r is
    where
      none : (b : Bool) → [] ≡ (if b then ended_list (tenant_of t) None else [])
      none true = refl
      none false = refl

      by : (r : Option Allocation) → option_map_or (λ a. is_live a && not (option_map_or is_live row false)) r false ≡ b →
          option_map_or (λ a. if is_live a && not (option_map_or is_live row false) then (t.namespace, a) ∷ [] else []) r [] ≡
          (if b then ended_list (tenant_of t) r else [])
      by None is = none b
      by (Some a) is = ap (λ b. if b then (t.namespace, a) ∷ [] else []) is

flat_append : {A B : Type 0} (f : A → List B) (xs ys : List A) → flat_map f (xs ++ ys) ≡ flat_map f xs ++ flat_map f ys
flat_append f [] ys = refl
flat_append f (x ∷ xs) ys = ap (λ l. f x ++ l) (flat_append f xs ys) ∙ sym (append_assoc (f x) (flat_map f xs) (flat_map f ys))

pub flat_flat : {A B C : Type 0} (f : B → List C) (g : A → List B) (xs : List A) → flat_map (λ x. flat_map f (g x)) xs ≡ flat_map f (flat_map g xs)
flat_flat f g [] = refl
flat_flat f g (x ∷ xs) = ap (λ l. flat_map f (g x) ++ l) (flat_flat f g xs) ∙ sym (flat_append f (g x) (flat_map g xs))

module _ (t : Tables) (ns : Name) where
  pub ended_there : (x : TenantRows) (c : TenantChange) → row_at t.tenants ns ≡ Some x → ended_of (world_of t) ns (Some c) ≡ ended_in (tenant_of x) c
  ended_there x c at = ap (λ o. option_map_or (λ t. ended_in t c) o []) (tenant_at t ns ∙ ap (option_map tenant_of) at)

  pub ended_nowhere : (x : Option TenantChange) → row_at t.tenants ns ≡ None → ended_of (world_of t) ns x ≡ []
  ended_nowhere x at = ap (λ o. option_map_or (λ t. option_map_or (ended_in t) x []) o []) (tenant_at t ns ∙ ap (option_map tenant_of) at)

-- where no allocation changes, none ends
pub ended_unchanged : (w : World) (ns : Name) → ended_of w ns None ≡ []
ended_unchanged w ns = by (get w.tenants ns)
  where
    by : (r : Option Tenant) → option_map_or (λ t. option_map_or (ended_in t) None []) r [] ≡ []
    by None = refl
    by (Some t) = refl

pub ended_without : (w : World) (ns : Name) (c : TenantChange) → entries c.allocations ≡ [] → ended_of w ns (Some c) ≡ []
ended_without w ns c none = by (get w.tenants ns)
  where
    by : (r : Option Tenant) → option_map_or (λ t. ended_in t c) r [] ≡ []
    by None = refl
    by (Some t) = ap (ended_among t) none

module _ (t : Tables) (name : Name) where
  pub quota_at : get (world_of t).quotas name ≡ option_map quota_of (row_at t.quotas name)
  unfolding world_of
  quota_at = get-table_of names one_name (λ _ x. quota_of x) (rows t.quotas) name ∙ ap (option_map quota_of) (get-rows names t.quotas name)

  pub relimits_by : (r : Option QuotaRows) → row_at t.quotas name ≡ r → (x : Option Quota) (y : Quota) → x ≡ Some y →
      relimits (world_of t) (name, x) ≡ option_map_or (λ old. changes_limits old (with_quota y (Some old))) (option_map quota_of r) false
  relimits_by r is x y at = ap (λ x. relimits (world_of t) (name, x)) at ∙
      ap (λ o. option_map_or (λ old. changes_limits old (with_quota y (Some old))) o false) (quota_at ∙ ap (option_map quota_of) is)

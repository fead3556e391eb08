-- Which live allocations end, by the change alone.
use Rattle.std.specs.Prelude.{◌≡◌, ℕ, Bool, true, false, not, [], ◌∷◌, Option, Some, None, ◌&&◌, ◌||◌, option_map, is_some, unwrap_or}
use Rattle.std.specs.Prelude.{if◌then◌else◌}
use Rattle.std.proofs.Common.{refl, sym, ap, ◌∙◌}
use Rattle.std.specs.Option.{option_map_or, option_and_then}
use Rattle.std.specs.List.{list_any}
use Rattle.std.specs.FinMap.{entries, get}
use Rattle.keyed.specs.Table.{flat, row_at}
use Rattle.ns_types.specs.declared.allocation.Allocation.{Allocation}
use Rattle.ns_types.specs.declared.records.Namespace.{Namespace}
use Rattle.ns_types.specs.State.Names.{Name}
use Rattle.ns_types.specs.Settling.Releases.{ends}
use Rattle.ns_types.specs.State.Rows.{World, Tenant, is_live, allocation_at}
use Rattle.ns_types.specs.State.Tables.{any_row}
use Rattle.ns_types.proofs.Lists.{not_both, any_alike}
use Rattle.ns_types.proofs.Named.{names, one_name, numbers, one_number}
use Rattle.ns_types.proofs.Tables.{any_row-none, each_row}
use Rattle.ns_change.specs.declared.change.Change.{Change}
use Rattle.ns_change.specs.declared.change.TenantChange.{TenantChange}
use Rattle.ns_change.specs.Changed.{changed, changed_tenant, perhaps}
use Rattle.ns_release.specs.Released.{at_ended, ended_one, ended_in, ended_of, ended_rows}
use Rattle.keyed.specs.Over.{over}
use Rattle.ns_types.proofs.Elements.{any_flat}
use Rattle.ns_change.proofs.Seen.{tenant_after}
use Rattle.keyed.proofs.Over.{get-over, over_apart, any_row-before}

module _ (w : World) (c : Change) (passes : Namespace → Allocation → Bool) where
  -- what is asked of an allocation before
  asked : Name → Namespace → ℕ → Allocation → Bool
  asked ns namespace n a = is_live a && passes namespace a && not (option_map_or is_live (allocation_at (changed w c) (ns, n)) false)

  -- an allocation that stays as it was does not end
  stays : (ns : Name) (namespace : Namespace) (n : ℕ) (a : Allocation) → allocation_at (changed w c) (ns, n) ≡ Some a → asked ns namespace n a ≡ false
  unfolding asked
  stays ns namespace n a at = ap (λ r. is_live a && passes namespace a && not (option_map_or is_live r false)) at ∙ by (is_live a) (passes namespace a)
    where
      by : (l p : Bool) → (l && p && not l) ≡ false
      by true true = refl
      by true false = refl
      by false p = refl

  kept_tenant : (ns : Name) (t : Tenant) → get w.tenants ns ≡ Some t → row_at c.tenants ns ≡ None → get (changed w c).tenants ns ≡ Some t
  kept_tenant ns t is none = tenant_after w c ns ∙ (λ i. option_map (perhaps changed_tenant (none i)) (is i))

  new_tenant : (ns : Name) (t : Tenant) (x : TenantChange) → get w.tenants ns ≡ Some t → row_at c.tenants ns ≡ Some x →
      get (changed w c).tenants ns ≡ Some (changed_tenant t x)
  new_tenant ns t x is row = tenant_after w c ns ∙ (λ i. option_map (perhaps changed_tenant (row i)) (is i))

  none_ends : (ns : Name) (t : Tenant) → get w.tenants ns ≡ Some t → row_at c.tenants ns ≡ None → any_row (asked ns t.namespace) t.allocations ≡ false
  none_ends ns t is none = any_row-none numbers one_number (asked ns t.namespace) t.allocations
      (λ n a at. stays ns t.namespace n a (ap (option_and_then (λ t. get t.allocations n)) (kept_tenant ns t is none) ∙ at))

  ends_in : (ns : Name) (t : Tenant) (x : TenantChange) → get w.tenants ns ≡ Some t → row_at c.tenants ns ≡ Some x →
      any_row (asked ns t.namespace) t.allocations ≡ list_any (at_ended passes) (ended_in t x)
  unfolding asked
  ends_in ns t x is row = any_row-before numbers one_number (asked ns t.namespace) t.allocations x.allocations
      (λ n a at out. stays ns t.namespace n a (now n ∙ over_apart numbers one_number t.allocations x.allocations n out ∙ at))
      ∙ any_alike _ _ (entries x.allocations) (each_row numbers one_number _ x.allocations (λ n r at. by n r at (get t.allocations n)))
      ∙ sym (any_flat (at_ended passes) (λ e. ended_one t e.0 e.1) (entries x.allocations))
    where
      now : (n : ℕ) → allocation_at (changed w c) (ns, n) ≡ get (over t.allocations x.allocations) n
      now n = ap (option_and_then (λ t. get t.allocations n)) (new_tenant ns t x is row)

      one : (l p b : Bool) (a : Allocation) → passes t.namespace a ≡ p →
          (l && p && not b) ≡ list_any (at_ended passes) (if l && not b then (t.namespace, a) ∷ [] else [])
      one true true true a e = refl
      one true true false a e = ap (λ b. b || false) (sym e)
      one true false true a e = refl
      one true false false a e = ap (λ b. b || false) (sym e)
      one false p b a e = refl

      by : (n : ℕ) (r : Option Allocation) → get x.allocations n ≡ Some r → (old : Option Allocation) → option_map_or (asked ns t.namespace n) old false
          ≡ list_any (at_ended passes) (option_map_or (λ a. if is_live a && not (option_map_or is_live r false) then (t.namespace, a) ∷ [] else []) old [])
      by n r at None = refl
      by n r at (Some a) = ap (λ r. is_live a && passes t.namespace a && not (option_map_or is_live r false))
          (now n ∙ get-over numbers one_number t.allocations x.allocations n ∙ ap (λ r. unwrap_or r (get t.allocations n)) at)
          ∙ one (is_live a) (passes t.namespace a) (option_map_or is_live r false) a refl

  pub ends_is : ends w (changed w c) passes ≡ list_any (at_ended passes) (ended_rows w c)
  unfolding ends asked
  ends_is = any_row-before names one_name (λ ns t. any_row (asked ns t.namespace) t.allocations) w.tenants c.tenants
      (λ ns t is out. none_ends ns t is (ap flat (by (get c.tenants ns) out)))
      ∙ any_alike _ _ (entries c.tenants) (each_row names one_name _ c.tenants (λ ns x at. row ns x at (get w.tenants ns) refl))
      ∙ sym (any_flat (at_ended passes) (λ e. ended_of w e.0 e.1) (entries c.tenants))
    where
      by : (r : Option (Option TenantChange)) → is_some r ≡ false → r ≡ None
      by None e = refl
      by (Some x) e = not_both refl e

      row : (ns : Name) (x : Option TenantChange) → get c.tenants ns ≡ Some x → (t : Option Tenant) → get w.tenants ns ≡ t
          → option_map_or (λ t. any_row (asked ns t.namespace) t.allocations) t false ≡ list_any (at_ended passes)
          (option_map_or (λ t. option_map_or (ended_in t) x []) t [])
      row ns x at None is = refl
      row ns None at (Some t) is = none_ends ns t is (ap flat at)
      row ns (Some x) at (Some t) is = ends_in ns t x is (ap flat at)

-- What is asked of a step's releases, slot by slot.
use Rattle.std.specs.Prelude.{◌≡◌, ℕ, Bool, true, false, ◌&&◌, ◌||◌, if◌then◌else◌, flat_map, List, [], ◌∷◌, ◌++◌, not, Option, Some, None}
use Rattle.std.proofs.Common.{refl, sym, ap, ◌∙◌}
use Rattle.std.specs.Option.{option_map_or}
use Rattle.std.specs.List.{list_any}
use Rattle.std.specs.FinMap.{entries, get}
use Rattle.ns_types.specs.declared.allocation.Allocation.{Allocation}
use Rattle.ns_types.specs.declared.node.Class.{Class}
use Rattle.ns_types.specs.declared.records.Namespace.{Namespace}
use Rattle.ns_types.specs.State.Names.{Name}
use Rattle.ns_types.specs.State.Rows.{World, Tenant, is_live}
use Rattle.ns_change.specs.declared.change.Change.{Change}
use Rattle.ns_change.specs.Changed.{changed}
use Rattle.std.proofs.lemmas.List.Folds.{list_any-append}
use Rattle.ns_types.proofs.Elements.{any_flat}
use Rattle.ns_release.specs.Released.{ended_of, quota_left, quota_relimited, quotas_ended, quotas_ended_in, quotas_left, quotas_relimited}
use Rattle.ns_release.specs.Released.{released_quotas, released_rooms}
use Rattle.ns_release.specs.Released.{rooms_ended_in, rooms_left, rooms_of_pool}
use Rattle.ns_release.proofs.Released.{flat_flat}

module _ (w : World) (c : Change) where
  pub rooms_asked : (p : Name × Class → Bool) →
      (list_any (λ slot. list_any p (rooms_of_pool w slot)) (entries c.pools)
      || list_any (λ slot. list_any p (rooms_ended_in w (changed w c) slot)) (entries c.tenants)) ≡ list_any p (released_rooms w c)
  rooms_asked p = (λ i. sym (any_flat p (rooms_of_pool w) (entries c.pools)) i
      || (sym (any_flat p (rooms_ended_in w (changed w c)) (entries c.tenants)) ∙
      ap (list_any p) (flat_flat (rooms_left (changed w c)) (λ s. ended_of w s.0 s.1) (entries c.tenants))) i)
      ∙ sym (list_any-append p (flat_map (rooms_of_pool w) (entries c.pools)) _)

  pub quotas_asked : (p : Name → Bool) →
      (list_any (λ slot. list_any p (quota_relimited w slot)) (entries c.quotas)
      || list_any (λ slot. list_any p (quotas_ended_in w slot)) (entries c.tenants)) ≡ list_any p (released_quotas w c)
  quotas_asked p = (λ i. sym (any_flat p (quota_relimited w) (entries c.quotas)) i
      || (sym (any_flat p (quotas_ended_in w) (entries c.tenants)) ∙
      ap (list_any p) (flat_flat (λ (e : Namespace × Allocation). quota_left e.0) (λ s. ended_of w s.0 s.1) (entries c.tenants))) i)
      ∙ sym (list_any-append p (quotas_relimited w c) (quotas_left w c))

-- where no quota of the namespace passes the test, none that an ended allocation releases does
pub none_frees : (p : Name → Bool) (t : Tenant) → list_any p (quota_left t.namespace) ≡ false → (slots : List (ℕ × Option Allocation)) →
    list_any (λ slot. list_any p (quotas_ended t slot)) slots ≡ false
none_frees p t none [] = refl
none_frees p t none (slot ∷ slots) = (λ i. by (get t.allocations slot.0) i || none_frees p t none slots i)
  where
    one : (b : Bool) (a : Allocation) →
        list_any p (flat_map (λ (e : Namespace × Allocation). quota_left e.0) (if b then (t.namespace, a) ∷ [] else [])) ≡ false
    one false a = refl
    one true a = list_any-append p (quota_left t.namespace) [] ∙ ap (λ b. b || false) none

    by : (o : Option Allocation) → list_any p (flat_map (λ (e : Namespace × Allocation). quota_left e.0)
        (option_map_or (λ a. if is_live a && not (option_map_or is_live slot.1 false) then (t.namespace, a) ∷ [] else []) o [])) ≡ false
    by None = refl
    by (Some a) = one (is_live a && not (option_map_or is_live slot.1 false)) a

-- a namespace without a quota releases none
pub nothing_freed : (t : Tenant) → t.namespace.quota ≡ None → (slots : List (ℕ × Option Allocation)) → flat_map (quotas_ended t) slots ≡ []
nothing_freed t none [] = refl
nothing_freed t none (slot ∷ slots) = (λ i. by (get t.allocations slot.0) i ++ nothing_freed t none slots i)
  where
    one : (b : Bool) (a : Allocation) → flat_map (λ (e : Namespace × Allocation). quota_left e.0) (if b then (t.namespace, a) ∷ [] else []) ≡ []
    one false a = refl
    one true a = ap (λ q. option_map_or (λ quota. quota ∷ []) q [] ++ []) none

    by : (o : Option Allocation) → flat_map (λ (e : Namespace × Allocation). quota_left e.0)
        (option_map_or (λ a. if is_live a && not (option_map_or is_live slot.1 false) then (t.namespace, a) ∷ [] else []) o []) ≡ []
    by None = refl
    by (Some a) = one (is_live a && not (option_map_or is_live slot.1 false)) a

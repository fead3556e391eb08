-- What look-ups find.
use Rattle.std.specs.Prelude.{◌≡◌, ◌↔◌, Bool, true, ◌||◌, List, [], ◌∷◌, Option, Some, None, IsTrue}
use Rattle.std.proofs.Common.{refl, sym, ap, subst, ◌∙◌, inl, inr}
use Rattle.std.proofs.lemmas.Bool.{or_right}
use Rattle.std.specs.FinMap.{get}
use Rattle.std.specs.List.{Contains, list_any}
use Rattle.std.specs.Option.{option_map_or, option_and_then}
use Rattle.ns_types.specs.declared.evaluation.Evaluation.{Evaluation}
use Rattle.ns_types.specs.State.Names.{same_key, same_number}
use Rattle.ns_types.specs.State.Rows.{Tenant, PoolRows}
use Rattle.ns_types.proofs.Named.{one_number, same_key_refl, same_number_refl}
use Rattle.ns_types.proofs.Once.{key_is}
use Rattle.ns_types.proofs.Tables.{tied}
use Rattle.ns_types.proofs.Tests.{not_Some}
use Rattle.ns_laws.specs.Lookups as law
use Rattle.ns_laws.proofs.Elements.{Has, any_has, contains_from, has_from}
use Rattle.ns_laws.proofs.Scope.Sharing.{found_in, has_contained}

-- ---- rows

-- what is found by two look-ups, one in what the other found
found_twice : {A B : Type 0} (f : A → Option B) (o : Option A) (b : B) → (option_and_then f o ≡ Some b) ↔ ((a : A) × (o ≡ Some a) × (f a ≡ Some b))
found_twice {A} {B} f o b = (to o, λ there. ap (option_and_then f) there.1 ∙ there.2)
  where
    to : (o : Option A) → option_and_then f o ≡ Some b → (a : A) × (o ≡ Some a) × (f a ≡ Some b)
    to None e = absurd (not_Some b e)
    to (Some a) e = (a, refl, e)

pub evaluations_are_found : law.EvaluationsAreFound
evaluations_are_found w ns n = found_twice (λ (t : Tenant). get t.evaluations n) (get w.tenants ns)

pub allocations_are_found : law.AllocationsAreFound
allocations_are_found w ns n = found_twice (λ (t : Tenant). get t.allocations n) (get w.tenants ns)

pub workers_are_found : law.WorkersAreFound
workers_are_found w ns number = found_twice (λ (t : Tenant). get t.workers number) (get w.tenants ns)

pub nodes_are_found : law.NodesAreFound
nodes_are_found w pool name = found_twice (λ (p : PoolRows). get p.nodes name) (get w.pools pool)

pub priorities_are_found : law.PrioritiesAreFound
priorities_are_found w key e is = ap (λ (o : Option Evaluation). option_map_or (λ e. e.priority) o 0) is

-- ---- lists

has_any : {X : Type 0} (p : X → Bool) (xs : List X) (x : X) → Has xs x → p x ≡ true → list_any p xs ≡ true
has_any p [] x has is = absurd has
has_any p (y ∷ xs) x (inl same) is = ap (λ b. b || list_any p xs) (ap p same ∙ is)
has_any p (y ∷ xs) x (inr has) is = or_right (p y) (list_any p xs) (has_any p xs x has is)

module _ {X : Type 0} (same : X → X → Bool) (is : (a b : X) → same a b ≡ true → a ≡ b) (itself : (a : X) → same a a ≡ true) where
  listed : (xs : List X) (x : X) → IsTrue (list_any (same x) xs) ↔ Contains xs x
  listed xs x = (
    λ e. let found = any_has (same x) xs e in contains_from xs x (there found.0 found.1 (is x found.0 found.2)),
    λ has. has_any (same x) xs x (has_from xs x has.0 has.1 has.2) (itself x),
  )
    where
      there : (y : X) → Has xs y → x ≡ y → Has xs x
      there y has e = subst (Has xs) (sym e) has

pub names_are_listed : law.NamesAreListed
names_are_listed names name = (found_in names name, has_contained names name)

pub numbers_are_listed : law.NumbersAreListed
numbers_are_listed = listed same_number (λ a b. tied one_number a b) same_number_refl

pub keys_are_listed : law.KeysAreListed
keys_are_listed = listed same_key key_is same_key_refl

-- The elements of lists.
use Rattle.std.specs.Prelude.{◌≡◌, ◌⊎◌, ℕ, zero, suc, ◌<◌, Bool, true, false, cond, ◌||◌, T, List, [], ◌∷◌, ◌++◌}
use Rattle.std.specs.Prelude.{Option, Some, None, filter, filter_map, flat_map, length, map, slice_index_or}
use Rattle.std.specs.List.{Contains, cons_option, list_any}
use Rattle.std.proofs.Common.{inl, inr, refl, sym, ap, subst, ◌∙◌, arith}
use Rattle.ns_types.specs.State.Lists.{Each}
use Rattle.std.specs.FinMap.{FinMap, IsAntisymmetric, entries, get, get-entries}
use Rattle.std.specs.declared.cmp.Ordering.{Ordering}
use Rattle.ns_types.proofs.Elements.{each_found}
use Rattle.ns_types.proofs.Lists.{each_map}
use Rattle.ns_laws.specs.Sublist.{IsSublist, both_end, taken, left}

-- ---- what a filter keeps is in its order

module _ {X : Type 0} where
  pub filter_in_order : (p : X → Bool) (xs : List X) → IsSublist (filter p xs) xs
  filter_in_order p [] = both_end
  filter_in_order p (x ∷ xs) = by (p x) (filter_in_order p xs)
    where
      by : (b : Bool) → IsSublist (filter p xs) xs → IsSublist (cond b (x ∷ filter p xs) (filter p xs)) (x ∷ xs)
      by true rest = taken x (filter p xs) xs rest
      by false rest = left x (filter p xs) xs rest

-- ---- which elements a list has

module _ {X : Type 0} where
  -- x is in the list: std's `Contains`, by recursion
  abbrev pub Has : List X → X → Type 0
  Has [] x = ⊥
  Has (y ∷ ys) x = (y ≡ x) ⊎ Has ys x

  pub has_from : (xs : List X) (x : X) (k : ℕ) → k < length xs → slice_index_or xs k x ≡ x → Has xs x
  has_from [] x k lt e = absurd (omega (arith, lt))
  has_from (y ∷ ys) x zero lt e = inl e
  has_from (y ∷ ys) x (suc k) lt e = inr (has_from ys x k (omega (arith, lt)) e)

  pub contains_from : (xs : List X) (x : X) → Has xs x → Contains xs x
  contains_from [] x h = absurd h
  contains_from (y ∷ ys) x (inl e) = (0, omega arith, e)
  contains_from (y ∷ ys) x (inr h) = let rest = contains_from ys x h in (suc rest.0, omega (arith, rest.1), rest.2)

  pub has_append : (xs ys : List X) (x : X) → Has (xs ++ ys) x → Has xs x ⊎ Has ys x
  has_append [] ys x h = inr h
  has_append (y ∷ xs) ys x (inl e) = inl (inl e)
  has_append (y ∷ xs) ys x (inr h) = by (has_append xs ys x h)
    where
      by : Has xs x ⊎ Has ys x → Has (y ∷ xs) x ⊎ Has ys x
      by (inl h) = inl (inr h)
      by (inr h) = inr h

  pub append_has : (xs ys : List X) (x : X) → Has xs x ⊎ Has ys x → Has (xs ++ ys) x
  append_has [] ys x (inl h) = absurd h
  append_has [] ys x (inr h) = h
  append_has (y ∷ xs) ys x (inl (inl e)) = inl e
  append_has (y ∷ xs) ys x (inl (inr h)) = inr (append_has xs ys x (inl h))
  append_has (y ∷ xs) ys x (inr h) = inr (append_has xs ys x (inr h))

  pub has_filter : (p : X → Bool) (xs : List X) (x : X) → Has (filter p xs) x → Has xs x × (p x ≡ true)
  has_filter p [] x h = absurd h
  has_filter p (y ∷ ys) x h = by (has_filter p ys x) (p y) refl h
    where
      by : (Has (filter p ys) x → Has ys x × (p x ≡ true)) → (b : Bool) → p y ≡ b → Has (cond b (y ∷ filter p ys) (filter p ys)) x →
          Has (y ∷ ys) x × (p x ≡ true)
      by later true is (inl e) = (inl e, ap p (sym e) ∙ is)
      by later true is (inr h) = let rest = later h in (inr rest.0, rest.1)
      by later false is h = let rest = later h in (inr rest.0, rest.1)

  pub filter_has : (p : X → Bool) (xs : List X) (x : X) → Has xs x → p x ≡ true → Has (filter p xs) x
  filter_has p [] x h t = absurd h
  filter_has p (y ∷ ys) x (inl e) t = subst (λ b. Has (cond b (y ∷ filter p ys) (filter p ys)) x) (sym (ap p e ∙ t)) (inl e)
  filter_has p (y ∷ ys) x (inr h) t = by (p y) (filter_has p ys x h t)
    where
      by : (b : Bool) → Has (filter p ys) x → Has (cond b (y ∷ filter p ys) (filter p ys)) x
      by true h = inr h
      by false h = h

  pub has_each : (xs : List X) → Each (λ x. Has xs x) xs
  has_each [] = tt
  has_each (x ∷ xs) = (inl refl, each_map (λ y h. inr h) xs (has_each xs))

  pub any_has : (p : X → Bool) (xs : List X) → list_any p xs ≡ true → (x : X) × Has xs x × (p x ≡ true)
  any_has p [] e = absurd (subst T (sym e) tt)
  any_has p (x ∷ xs) e = by (any_has p xs) (p x) refl e
    where
      by : (list_any p xs ≡ true → (y : X) × Has xs y × (p y ≡ true)) → (b : Bool) → p x ≡ b → (b || list_any p xs) ≡ true →
          (y : X) × Has (x ∷ xs) y × (p y ≡ true)
      by later true t e = (x, inl refl, t)
      by later false t e = let r = later e in (r.0, inr r.1, r.2)

  pub each_has : (P : X → Type 0) (xs : List X) (x : X) → Has xs x → Each P xs → P x
  each_has P [] x h all = absurd h
  each_has P (y ∷ xs) x (inl e) all = subst P e all.0
  each_has P (y ∷ xs) x (inr h) all = each_has P xs x h all.1

  pub each_from_has : (P : X → Type 0) (xs : List X) → ((x : X) → Has xs x → P x) → Each P xs
  each_from_has P [] h = tt
  each_from_has P (x ∷ xs) h = (h x (inl refl), each_from_has P xs (λ y is. h y (inr is)))

module _ {A X : Type 0} (f : A → List X) (x : X) where
  pub has_flat : (those : List A) → Has (flat_map f those) x → (a : A) × Has those a × Has (f a) x
  has_flat [] h = absurd h
  has_flat (a ∷ those) h = by (has_flat those) (has_append (f a) (flat_map f those) x h)
    where
      by : (Has (flat_map f those) x → (a : A) × Has those a × Has (f a) x) → Has (f a) x ⊎ Has (flat_map f those) x → (b : A) × Has (a ∷ those) b × Has (f b) x
      by later (inl h) = (a, inl refl, h)
      by later (inr h) = let rest = later h in (rest.0, inr rest.1, rest.2)

  pub flat_has : (those : List A) (a : A) → Has those a → Has (f a) x → Has (flat_map f those) x
  flat_has [] a h k = absurd h
  flat_has (b ∷ those) a (inl e) k = append_has (f b) (flat_map f those) x (inl (subst (λ a. Has (f a) x) (sym e) k))
  flat_has (b ∷ those) a (inr h) k = append_has (f b) (flat_map f those) x (inr (flat_has those a h k))

pub map_has : {X Y : Type 0} (f : X → Y) (xs : List X) (x : X) → Has xs x → Has (map f xs) (f x)
map_has f [] x h = absurd h
map_has f (y ∷ ys) x (inl e) = inl (ap f e)
map_has f (y ∷ ys) x (inr h) = inr (map_has f ys x h)

pub has_filter_map : {A B : Type 0} (f : A → Option B) (xs : List A) (y : B) → Has (filter_map f xs) y → (x : A) × Has xs x × (f x ≡ Some y)
has_filter_map f [] y h = absurd h
has_filter_map {A = A} {B = B} f (x ∷ xs) y h = by (f x) refl (has_filter_map f xs y) h
  where
    by : (o : Option B) → f x ≡ o → (Has (filter_map f xs) y → (z : A) × Has xs z × (f z ≡ Some y)) →
        Has (cons_option o (filter_map f xs)) y → (z : A) × Has (x ∷ xs) z × (f z ≡ Some y)
    by None is later h = let r = later h in (r.0, inr r.1, r.2)
    by (Some b) is later (inl e) = (x, inl refl, is ∙ ap Some e)
    by (Some b) is later (inr h) = let r = later h in (r.0, inr r.1, r.2)

pub filter_map_has : {A B : Type 0} (f : A → Option B) (xs : List A) (x : A) (y : B) → Has xs x → f x ≡ Some y → Has (filter_map f xs) y
filter_map_has f [] x y h e = absurd h
filter_map_has {B = B} f (z ∷ xs) x y (inl same) e =
    subst (λ (o : Option B). Has (cons_option o (filter_map f xs)) y) (sym (ap f same ∙ e)) (inl refl)
filter_map_has {B = B} f (z ∷ xs) x y (inr h) e = by (f z) (filter_map_has f xs x y h e)
  where
    by : (o : Option B) → Has (filter_map f xs) y → Has (cons_option o (filter_map f xs)) y
    by None h = h
    by (Some b) h = inr h

-- a row of a table is among its entries
pub has_row : {K X : Type 0} {R : K → K → Ordering} → IsAntisymmetric R → (m : FinMap R X) (k : K) (x : X) → get m k ≡ Some x → Has (entries m) (k, x)
has_row same m k x at = each_found same (Has (entries m)) (entries m) (has_each (entries m)) k x (sym (get-entries m k) ∙ at)

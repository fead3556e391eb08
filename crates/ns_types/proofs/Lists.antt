-- Lists of which a part is chosen.
use Rattle.std.specs.Prelude.{◌≡◌, Bool, true, false, cond, T, List, [], ◌∷◌, ◌++◌, ◌||◌, not, filter, fold, flat_map}
use Rattle.std.proofs.Common.{refl, sym, ap, subst, ◌∙◌}
use Rattle.std.specs.List.{list_any}
use Rattle.ns_types.specs.State.Lists.{Each, is_empty}

pub cond_same : {A : Type 0} (b : Bool) (x : A) → cond b x x ≡ x
cond_same true x = refl
cond_same false x = refl

pub not_both : {A : Type 0} {b : Bool} → b ≡ true → b ≡ false → A
not_both t f = absurd (subst T (sym t ∙ f) tt)

pub left_none : (a b : Bool) → (a || b) ≡ false → a ≡ false
left_none true b e = absurd (subst T e tt)
left_none false b e = refl

pub right_none : (a b : Bool) → (a || b) ≡ false → b ≡ false
right_none true b e = absurd (subst T e tt)
right_none false b e = e

pub none_of : {A : Type 0} (xs : List A) → list_any (λ _. false) xs ≡ false
none_of [] = refl
none_of (x ∷ xs) = none_of xs

-- a test finds one where the elements that pass it are some
pub any_is : {A : Type 0} (p : A → Bool) (xs : List A) → list_any p xs ≡ not (is_empty (filter p xs))
any_is p [] = refl
any_is p (x ∷ xs) = by (p x) (any_is p xs)
  where
    by : (b : Bool) → list_any p xs ≡ not (is_empty (filter p xs)) → (b || list_any p xs) ≡ not (is_empty (cond b (x ∷ filter p xs) (filter p xs)))
    by true later = refl
    by false later = later

module _ {A : Type 0} where
  pub filter-append : (p : A → Bool) (xs ys : List A) → filter p (xs ++ ys) ≡ filter p xs ++ filter p ys
  filter-append p [] ys = refl
  filter-append p (x ∷ xs) ys = elim (p x) as (λ b. cond b (x ∷ filter p (xs ++ ys)) (filter p (xs ++ ys)) ≡ cond b (x ∷ filter p xs) (filter p xs) ++
      filter p ys) [
        | true ↦ ap (λ r. x ∷ r) (filter-append p xs ys)
        | false ↦ filter-append p xs ys
      ]

  -- the choice and a filter can be made in either order, if the filters agree on what is chosen
  pub filter_chosen : (p f g : A → Bool) (xs : List A) → Each (λ x. p x ≡ true → f x ≡ g x) xs → filter p (filter f xs) ≡ filter g (filter p xs)
  filter_chosen p f g [] h = refl
  filter_chosen p f g (x ∷ xs) h =
      let rest = filter_chosen p f g xs h.1 in
      elim (p x) as (λ b. p x ≡ b → filter p (cond (f x) (x ∷ filter f xs) (filter f xs)) ≡ filter g (cond b (x ∷ filter p xs) (filter p xs))) [
        | true ↦ λ t. ap (λ b. filter p (cond b (x ∷ filter f xs) (filter f xs))) (h.0 t)
            ∙ elim (g x) as (λ b. filter p (cond b (x ∷ filter f xs) (filter f xs)) ≡ cond b (x ∷ filter g (filter p xs)) (filter g (filter p xs))) [
              | true ↦ ap (λ b. cond b (x ∷ filter p (filter f xs)) (filter p (filter f xs))) t ∙ ap (λ r. x ∷ r) rest
              | false ↦ rest
            ]
        | false ↦ λ t. elim (f x) as (λ b. filter p (cond b (x ∷ filter f xs) (filter f xs)) ≡ filter g (filter p xs)) [
          | true ↦ ap (λ b. cond b (x ∷ filter p (filter f xs)) (filter p (filter f xs))) t ∙ rest
          | false ↦ rest
        ]
      ] refl

  -- what passes is all among the chosen
  pub any_chosen : (p f : A → Bool) (xs : List A) → Each (λ x. p x ≡ false → f x ≡ false) xs → list_any f xs ≡ list_any f (filter p xs)
  any_chosen p f [] h = refl
  any_chosen p f (x ∷ xs) h =
      let rest = any_chosen p f xs h.1 in
      elim (p x) as (λ b. p x ≡ b → (f x || list_any f xs) ≡ list_any f (cond b (x ∷ filter p xs) (filter p xs))) [
        | true ↦ λ _. ap (λ b. f x || b) rest
        | false ↦ λ t. ap (λ b. b || list_any f xs) (h.0 t) ∙ rest
      ] refl

  pub any_alike : (f g : A → Bool) (xs : List A) → Each (λ x. f x ≡ g x) xs → list_any f xs ≡ list_any g xs
  any_alike f g [] h = refl
  any_alike f g (x ∷ xs) h = λ i. h.0 i || any_alike f g xs h.1 i

  pub filter_none : (f : A → Bool) (xs : List A) → Each (λ x. f x ≡ false) xs → filter f xs ≡ []
  filter_none f [] h = refl
  filter_none f (x ∷ xs) h = ap (λ b. cond b (x ∷ filter f xs) (filter f xs)) h.0 ∙ filter_none f xs h.1

  pub filter_all : (f : A → Bool) (xs : List A) → Each (λ x. f x ≡ true) xs → filter f xs ≡ xs
  filter_all f [] h = refl
  filter_all f (x ∷ xs) h = ap (λ b. cond b (x ∷ filter f xs) (filter f xs)) h.0 ∙ ap (λ r. x ∷ r) (filter_all f xs h.1)

  pub each : (P : A → Type 0) → ((x : A) → P x) → (xs : List A) → Each P xs
  each P h [] = tt
  each P h (x ∷ xs) = (h x, each P h xs)

  pub each_map : {P Q : A → Type 0} → ((x : A) → P x → Q x) → (xs : List A) → Each P xs → Each Q xs
  each_map f [] h = tt
  each_map f (x ∷ xs) h = (f x h.0, each_map f xs h.1)

  -- a fold of steps, each of which the choice sees exactly where its item is chosen
  pub fold_chosen : {S : Type 0} (alone : S → S) (f : S → A → S) (p : A → Bool) → ((s : S) (x : A) → alone (f s x) ≡ cond (p x) (f (alone s) x) (alone s))
      → (xs : List A) (s : S) → alone (fold f s xs) ≡ fold f (alone s) (filter p xs)
  fold_chosen alone f p h [] s = refl
  fold_chosen alone f p h (x ∷ xs) s = fold_chosen alone f p h xs (f s x)
      ∙ ap (λ r. fold f r (filter p xs)) (h s x)
      ∙ elim (p x) as (λ b. fold f (cond b (f (alone s) x) (alone s)) (filter p xs) ≡ fold f (alone s) (cond b (x ∷ filter p xs) (filter p xs)))
      [ true ↦ refl | false ↦ refl ]

  -- a filter that only chosen items pass
  pub filter_inside : (p f : A → Bool) (xs : List A) → Each (λ x. p x ≡ false → f x ≡ false) xs → filter f xs ≡ filter f (filter p xs)
  filter_inside p f [] h = refl
  filter_inside p f (x ∷ xs) h =
      let rest = filter_inside p f xs h.1 in
      elim (p x) as (λ b. p x ≡ b → cond (f x) (x ∷ filter f xs) (filter f xs) ≡ filter f (cond b (x ∷ filter p xs) (filter p xs))) [
        | true ↦ λ _. ap (λ r. cond (f x) (x ∷ r) r) rest
        | false ↦ λ t. ap (λ b. cond b (x ∷ filter f xs) (filter f xs)) (h.0 t) ∙ rest
      ] refl

  pub flat_map_inside : {B : Type 0} (p : A → Bool) (f : A → List B) (xs : List A) → Each (λ x. p x ≡ false → f x ≡ []) xs →
      flat_map f xs ≡ flat_map f (filter p xs)
  flat_map_inside p f [] h = refl
  flat_map_inside p f (x ∷ xs) h =
      let rest = flat_map_inside p f xs h.1 in
      elim (p x) as (λ b. p x ≡ b → f x ++ flat_map f xs ≡ flat_map f (cond b (x ∷ filter p xs) (filter p xs))) [
        | true ↦ λ _. ap (λ r. f x ++ r) rest
        | false ↦ λ t. ap (λ r. r ++ flat_map f xs) (h.0 t) ∙ rest
      ] refl

  pub any_part : (p f : A → Bool) (xs : List A) → list_any f xs ≡ false → list_any f (filter p xs) ≡ false
  any_part p f [] e = refl
  any_part p f (x ∷ xs) e = elim (p x) as (λ b. list_any f (cond b (x ∷ filter p xs) (filter p xs)) ≡ false) [
    | true ↦ λ i. left_none (f x) _ e i || any_part p f xs (right_none (f x) _ e) i
    | false ↦ any_part p f xs (right_none (f x) _ e)
  ]

pub filter_flat_map : {A B : Type 0} (p : A → Bool) (q : B → Bool) (f : A → List B) (xs : List A) →
    Each (λ x. (p x ≡ true → filter q (f x) ≡ f x) × (p x ≡ false → filter q (f x) ≡ [])) xs → filter q (flat_map f xs) ≡ flat_map f (filter p xs)
filter_flat_map p q f [] h = refl
filter_flat_map p q f (x ∷ xs) h =
    filter-append q (f x) (flat_map f xs) ∙ (elim (p x) as
    (λ b. p x ≡ b → filter q (f x) ++ filter q (flat_map f xs) ≡ flat_map f (cond b (x ∷ filter p xs) (filter p xs))) [
      | true ↦ λ t i. h.0.0 t i ++ filter_flat_map p q f xs h.1 i
      | false ↦ λ t. (λ i. h.0.1 t i ++ filter_flat_map p q f xs h.1 i)
    ] refl)

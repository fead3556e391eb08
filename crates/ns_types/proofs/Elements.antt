-- What holds of each element of a list, and of what a filter keeps.
use Rattle.std.specs.Prelude.{◌≡◌, suc, ◌≤◌, Bool, true, false, cond, not, ◌&&◌, ◌||◌, List, [], ◌∷◌, ◌++◌, filter, flat_map, length, map, Some}
use Rattle.std.proofs.Common.{refl, sym, ap, arith, subst, ◌∙◌}
use Rattle.std.specs.List.{All, list_any, list_all}
use Rattle.std.specs.declared.cmp.Ordering.{Ordering}
use Rattle.std.specs.FinMap.{IsAntisymmetric}
use Rattle.std.specs.FinMap.Entries.{find}
use Rattle.std.specs.Ordering.{eq_by_cmp}
use Rattle.std.proofs.Math.Bool.{and-false}
use Rattle.std.proofs.lemmas.List.Elements.{All-nil, All-cons}
use Rattle.std.proofs.lemmas.List.Folds.{list_any-append}
use Rattle.ns_types.specs.State.Lists.{Each, first_each}
use Rattle.ns_types.proofs.Lists.{not_both}
use Rattle.ns_types.proofs.Named.{first_of_both, second_of_both}
use Rattle.ns_types.proofs.Tables.{tied}
use Rattle.ns_types.proofs.Tests.{not_Some, same_Some}

module _ {A : Type 0} where
  -- ---- each, and all

  pub each_from_all : (p : A → Bool) (xs : List A) → list_all p xs ≡ true → Each (λ x. p x ≡ true) xs
  each_from_all p [] e = tt
  each_from_all p (x ∷ xs) e = (first_of_both (p x) _ e, each_from_all p xs (second_of_both (p x) _ e))

  pub all_from_each : (p : A → Bool) (xs : List A) → Each (λ x. p x ≡ true) xs → list_all p xs ≡ true
  all_from_each p [] h = refl
  all_from_each p (x ∷ xs) h = ap (λ b. b && list_all p xs) h.0 ∙ all_from_each p xs h.1

  pub all_from : (P : A → Type 0) (xs : List A) → Each P xs → All P xs
  all_from P [] h = All-nil P
  all_from P (x ∷ xs) h = All-cons P x xs h.0 (all_from P xs h.1)

  pub each_true : (xs : List A) → Each (λ _. Unit {0}) xs
  each_true [] = tt
  each_true (x ∷ xs) = (tt, each_true xs)

  pub each_of : (P Q : A → Type 0) → ((x : A) → P x → Q x) → (xs : List A) → Each P xs → Each Q xs
  each_of P Q f [] h = tt
  each_of P Q f (x ∷ xs) h = (f x h.0, each_of P Q f xs h.1)

  pub each_both : (P Q : A → Type 0) (xs : List A) → Each P xs → Each Q xs → Each (λ x. P x × Q x) xs
  each_both P Q [] h k = tt
  each_both P Q (x ∷ xs) h k = ((h.0, k.0), each_both P Q xs h.1 k.1)

  -- ---- of joined lists

  pub each_append : (P : A → Type 0) (xs ys : List A) → Each P xs → Each P ys → Each P (xs ++ ys)
  each_append P [] ys h k = k
  each_append P (x ∷ xs) ys h k = (h.0, each_append P xs ys h.1 k)

  pub each_back : (P : A → Type 0) (xs ys : List A) → Each P (xs ++ ys) → Each P ys
  each_back P [] ys h = h
  each_back P (x ∷ xs) ys h = each_back P xs ys h.1

  -- ---- of what a filter keeps

  pub each_passes : (f : A → Bool) (xs : List A) → Each (λ x. f x ≡ true) (filter f xs)
  each_passes f [] = tt
  each_passes f (x ∷ xs) = elim (f x) as (λ b. f x ≡ b → Each (λ x. f x ≡ true) (cond b (x ∷ filter f xs) (filter f xs))) [
    | true ↦ λ t. (t, each_passes f xs)
    | false ↦ λ _. each_passes f xs
  ] refl

  pub each_still : (P : A → Type 0) (f : A → Bool) (xs : List A) → Each P xs → Each P (filter f xs)
  each_still P f [] h = tt
  each_still P f (x ∷ xs) h = elim (f x) as (λ b. Each P (cond b (x ∷ filter f xs) (filter f xs))) [
    | true ↦ (h.0, each_still P f xs h.1)
    | false ↦ each_still P f xs h.1
  ]

  -- what holds of each holds of each that a filter keeps, which passes besides
  pub each_kept : (P : A → Type 0) (f : A → Bool) (xs : List A) → Each P xs → Each (λ x. P x × (f x ≡ true)) (filter f xs)
  each_kept P f [] h = tt
  each_kept P f (x ∷ xs) h = elim (f x) as (λ b. f x ≡ b → Each (λ x. P x × (f x ≡ true)) (cond b (x ∷ filter f xs) (filter f xs))) [
    | true ↦ λ t. ((h.0, t), each_kept P f xs h.1)
    | false ↦ λ _. each_kept P f xs h.1
  ] refl

  -- what holds of each that a filter keeps holds of each that passes
  pub each_passing : (P : A → Type 0) (f : A → Bool) (xs : List A) → Each P (filter f xs) → Each (λ x. f x ≡ true → P x) xs
  each_passing P f [] h = tt
  each_passing P f (x ∷ xs) h = by (f x) refl h (each_passing P f xs)
    where
      by : (b : Bool) → f x ≡ b → Each P (cond b (x ∷ filter f xs) (filter f xs)) → (Each P (filter f xs) → Each (λ x. f x ≡ true → P x) xs) →
          Each (λ x. f x ≡ true → P x) (x ∷ xs)
      by true e h go = ((λ _. h.0), go h.1)
      by false e h go = ((λ t. not_both t e), go h)

  pub each_first : (P : A → Type 0) (same : A → A → Bool) (xs : List A) → Each P xs → Each P (first_each same xs)
  each_first P same [] h = tt
  each_first P same (x ∷ xs) h = (h.0, each_still P _ (first_each same xs) (each_first P same xs h.1))

  -- ---- what a filter keeps

  -- a filter that treats alike all that a test takes for one keeps what the test finds, where it passes
  pub any_kept : (test p : A → Bool) (b : Bool) → ((x : A) → test x ≡ true → p x ≡ b) → (xs : List A) → list_any test (filter p xs) ≡ (list_any test xs && b)
  any_kept test p b alike [] = refl
  any_kept test p b alike (x ∷ xs) = by (test x) (p x) refl refl (any_kept test p b alike xs)
    where
      by : (s c : Bool) → test x ≡ s → p x ≡ c → list_any test (filter p xs) ≡ (list_any test xs && b)
          → list_any test (cond c (x ∷ filter p xs) (filter p xs)) ≡ ((s || list_any test xs) && b)
      by true true e f rest = ap (λ s. s || list_any test (filter p xs)) e ∙ sym f ∙ alike x e
      by true false e f rest = rest ∙ (ap (λ c. list_any test xs && c) (sym (alike x e) ∙ f) ∙ and-false (list_any test xs) ∙ sym f ∙ alike x e)
      by false true e f rest = ap (λ s. s || list_any test (filter p xs)) e ∙ rest
      by false false e f rest = rest

  -- one that does not pass changes nothing
  pub filter_without : (p : A → Bool) (xs ys : List A) (x : A) → p x ≡ false → filter p (xs ++ x ∷ ys) ≡ filter p (xs ++ ys)
  filter_without p [] ys x e = ap (λ b. cond b (x ∷ filter p ys) (filter p ys)) e
  filter_without p (z ∷ xs) ys x e = ap (λ l. cond (p z) (z ∷ l) l) (filter_without p xs ys x e)

  pub any_without : (p : A → Bool) (xs ys : List A) (x : A) → p x ≡ false → list_any p (xs ++ x ∷ ys) ≡ list_any p (xs ++ ys)
  any_without p [] ys x e = ap (λ b. b || list_any p ys) e
  any_without p (z ∷ xs) ys x e = ap (λ b. p z || b) (any_without p xs ys x e)

  pub filter_shorter : (p : A → Bool) (xs : List A) → length (filter p xs) ≤ length xs
  filter_shorter p [] = omega arith
  filter_shorter p (x ∷ xs) = by (p x) (filter_shorter p xs)
    where
      by : (b : Bool) → length (filter p xs) ≤ length xs → length (cond b (x ∷ filter p xs) (filter p xs)) ≤ suc (length xs)
      by true h = omega arith
      by false h = omega arith

  pub first_shorter : (same : A → A → Bool) (xs : List A) → length (first_each same xs) ≤ length xs
  first_shorter same [] = omega arith
  first_shorter same (x ∷ xs) = let a = filter_shorter (λ y. not (same x y)) (first_each same xs) in let b = first_shorter same xs in omega (arith, a, b)

-- ---- of lists made from others

module _ {A B : Type 0} where
  pub each_mapped : (P : B → Type 0) (f : A → B) (xs : List A) → Each (λ x. P (f x)) xs → Each P (map f xs)
  each_mapped P f [] h = tt
  each_mapped P f (x ∷ xs) h = (h.0, each_mapped P f xs h.1)

  pub each_flat : (P : B → Type 0) (f : A → List B) (xs : List A) → Each (λ x. Each P (f x)) xs → Each P (flat_map f xs)
  each_flat P f [] h = tt
  each_flat P f (x ∷ xs) h = each_append P (f x) (flat_map f xs) h.0 (each_flat P f xs h.1)

  pub each_flat_map : (P : B → Type 0) (f : A → List B) → ((x : A) → Each P (f x)) → (xs : List A) → Each P (flat_map f xs)
  each_flat_map P f h [] = tt
  each_flat_map P f h (x ∷ xs) = each_append P (f x) (flat_map f xs) (h x) (each_flat_map P f h xs)

  pub any_map : (p : B → Bool) (f : A → B) (xs : List A) → list_any p (map f xs) ≡ list_any (λ x. p (f x)) xs
  any_map p f [] = refl
  any_map p f (x ∷ xs) = ap (λ b. p (f x) || b) (any_map p f xs)

  pub filter_map : (p : B → Bool) (f : A → B) (xs : List A) → filter p (map f xs) ≡ map f (filter (λ x. p (f x)) xs)
  filter_map p f [] = refl
  filter_map p f (x ∷ xs) = elim (p (f x)) as (λ b. cond b (f x ∷ filter p (map f xs)) (filter p (map f xs)) ≡ map f
      (cond b (x ∷ filter (λ x. p (f x)) xs) (filter (λ x. p (f x)) xs))) [
        | true ↦ ap (λ ys. f x ∷ ys) (filter_map p f xs)
        | false ↦ filter_map p f xs
      ]

pub map_map : {A B C : Type 0} (g : B → C) (f : A → B) (xs : List A) → map g (map f xs) ≡ map (λ x. g (f x)) xs
map_map g f [] = refl
map_map g f (x ∷ xs) = ap (λ ys. g (f x) ∷ ys) (map_map g f xs)

-- ---- of entries

pub found_of : {K X : Type 0} (R : K → K → Ordering) (P : X → Type 0) (es : List (K × X)) (k : K) (x : X) → Each (λ e. P e.1) es → find R k es ≡ Some x → P x
found_of R P [] k x h is = absurd (not_Some x is)
found_of {X = X} R P (e ∷ es) k x h is = by (found_of R P es k x h.1) (eq_by_cmp R k e.0) is
  where
    by : (find R k es ≡ Some x → P x) → (b : Bool) → cond b (Some e.1) (find R k es) ≡ Some x → P x
    by later true is = subst P (same_Some e.1 x is) h.0
    by later false is = later is

-- of the one that is found holds what holds of each
pub each_found : {K X : Type 0} {R : K → K → Ordering} → IsAntisymmetric R → (P : K × X → Type 0) (es : List (K × X)) → Each P es →
    (k : K) (x : X) → find R k es ≡ Some x → P (k, x)
each_found same P [] all k x is = absurd (not_Some x is)
each_found {X = X} {R = R} same P (e ∷ es) all k x is = by (each_found same P es all.1 k x) (eq_by_cmp R k e.0) refl is
  where
    by : (find R k es ≡ Some x → P (k, x)) → (b : Bool) → eq_by_cmp R k e.0 ≡ b → cond b (Some e.1) (find R k es) ≡ Some x → P (k, x)
    by later true t is = subst P (λ i. (sym (tied same k e.0 t) i, same_Some e.1 x is i)) all.0
    by later false t is = later is

-- ---- whether some element passes

module _ {A B : Type 0} where
  pub any_flat : (p : B → Bool) (f : A → List B) (xs : List A) → list_any p (flat_map f xs) ≡ list_any (λ x. list_any p (f x)) xs
  any_flat p f [] = refl
  any_flat p f (x ∷ xs) = list_any-append p (f x) (flat_map f xs) ∙ ap (λ b. list_any p (f x) || b) (any_flat p f xs)

module _ {A : Type 0} where
  pub any_same : (p q : A → Bool) → ((x : A) → p x ≡ q x) → (xs : List A) → list_any p xs ≡ list_any q xs
  any_same p q e [] = refl
  any_same p q e (x ∷ xs) = λ i. e x i || any_same p q e xs i

  pub any_under : (b : Bool) (p : A → Bool) (xs : List A) → list_any (λ x. b && p x) xs ≡ (b && list_any p xs)
  any_under true p xs = refl
  any_under false p [] = refl
  any_under false p (x ∷ xs) = any_under false p xs

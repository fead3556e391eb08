-- Sums over lists: of lists that others are made of, of what a filter keeps, and of the classes that elements fall into.
use Rattle.std.specs.Prelude.{◌≡◌, ℕ, ◌+◌, ◌≤◌, Bool, true, false, cond, ◌||◌, List, [], ◌∷◌, filter, map, flat_map, sum_by}
use Rattle.std.proofs.Common.{refl, sym, ap, ◌∙◌, arith, ◌⊎◌, inl, inr}
use Rattle.std.specs.List.{list_any}
use Rattle.std.proofs.lemmas.List.Sums.{sum_by-cons, sum_by-append, sum_by-le-sum_by}
use Rattle.ns_types.specs.State.Lists.{Each}
use Rattle.ns_types.proofs.Lists.{not_both, each}

pub sum_add : {C : Type 0} (g h : C → ℕ) (cs : List C) → sum_by (λ c. g c + h c) cs ≡ sum_by g cs + sum_by h cs
sum_add g h [] = refl
sum_add g h (c ∷ cs) =
    let both = sum_by-cons (λ c. g c + h c) c cs in
    let first = sum_by-cons g c cs in
    let second = sum_by-cons h c cs in
    let rest = sum_add g h cs in
    omega (arith, both, first, second, rest)

pub sum_same : {X : Type 0} (f g : X → ℕ) (xs : List X) → Each (λ x. f x ≡ g x) xs → sum_by f xs ≡ sum_by g xs
sum_same f g [] h = refl
sum_same f g (x ∷ xs) h =
    let first = sum_by-cons f x xs in
    let second = sum_by-cons g x xs in
    let rest = sum_same f g xs h.1 in
    let here = h.0 in
    omega (arith, first, second, rest, here)

pub sum_none : {X : Type 0} (f : X → ℕ) (xs : List X) → Each (λ x. f x ≡ 0) xs → sum_by f xs ≡ 0
sum_none f [] h = refl
sum_none f (x ∷ xs) h =
    let whole = sum_by-cons f x xs in
    let here = h.0 in
    let rest = sum_none f xs h.1 in
    omega (arith, whole, here, rest)

pub sum_flat : {A C : Type 0} (f : A → ℕ) (g : C → List A) (cs : List C) → sum_by f (flat_map g cs) ≡ sum_by (λ c. sum_by f (g c)) cs
sum_flat f g [] = refl
sum_flat f g (c ∷ cs) =
    let parts = sum_by-append f (g c) (flat_map g cs) in
    let rest = sum_flat f g cs in
    let whole = sum_by-cons (λ c. sum_by f (g c)) c cs in
    omega (arith, parts, rest, whole)

pub sum_map : {A C : Type 0} (f : A → ℕ) (h : C → A) (cs : List C) → sum_by f (map h cs) ≡ sum_by (λ c. f (h c)) cs
sum_map f h [] = refl
sum_map f h (c ∷ cs) =
    let first = sum_by-cons f (h c) (map h cs) in
    let rest = sum_map f h cs in
    let whole = sum_by-cons (λ c. f (h c)) c cs in
    omega (arith, first, rest, whole)

-- ---- what a filter keeps

pub at_most : (b : Bool) (n : ℕ) → cond b n 0 ≤ n
at_most true n = omega arith
at_most false n = omega arith

pub none_more : (n : ℕ) → n ≡ 0 + n
none_more n = omega arith

module _ {A : Type 0} (f : A → ℕ) (p : A → Bool) where
  pub sum_part : (x : A) (xs : List A) → sum_by f (filter p (x ∷ xs)) ≡ cond (p x) (f x) 0 + sum_by f (filter p xs)
  sum_part x xs = elim (p x) as (λ b. sum_by f (cond b (x ∷ filter p xs) (filter p xs)) ≡ cond b (f x) 0 + sum_by f (filter p xs))
      [ true ↦ sum_by-cons f x (filter p xs) | false ↦ none_more _ ]

  pub sum_filter : (xs : List A) → sum_by f (filter p xs) ≡ sum_by (λ x. cond (p x) (f x) 0) xs
  sum_filter [] = refl
  sum_filter (x ∷ xs) = sum_part x xs ∙ ap (λ n. cond (p x) (f x) 0 + n) (sum_filter xs) ∙ sym (sum_by-cons (λ x. cond (p x) (f x) 0) x xs)

  pub sum_kept : (xs : List A) → sum_by f (filter p xs) ≤ sum_by f xs
  sum_kept xs =
      let kept = sum_filter xs in
      let less = sum_by-le-sum_by (λ x. cond (p x) (f x) 0) f xs (λ x. at_most (p x) (f x)) in
      omega (arith, kept, less)

-- ---- elements in classes

-- what some class has is at most what all of them have
counted_once : {C : Type 0} (has : C → Bool) (n : ℕ) (cs : List C) → list_any has cs ≡ true → n ≤ sum_by (λ c. cond (has c) n 0) cs
counted_once has n [] e = not_both e refl
counted_once has n (c ∷ cs) e = by (has c) refl e (counted_once has n cs)
  where
    whole : sum_by (λ c. cond (has c) n 0) (c ∷ cs) ≡ cond (has c) n 0 + sum_by (λ c. cond (has c) n 0) cs
    whole = sum_by-cons (λ c. cond (has c) n 0) c cs

    by : (b : Bool) → has c ≡ b → (b || list_any has cs) ≡ true → (list_any has cs ≡ true → n ≤ sum_by (λ c. cond (has c) n 0) cs) →
        n ≤ sum_by (λ c. cond (has c) n 0) (c ∷ cs)
    by true f e go = let here : cond (has c) n 0 ≡ n = ap (λ b. cond b n 0) f in omega (arith, whole, here)
    by false f e go = let rest = go e in omega (arith, whole, rest)

-- where each element that counts is in some class, the sum is at most that of the sums by class
pub sum_by_classes : {A C : Type 0} (f : A → ℕ) (has : C → A → Bool) (cs : List C) (xs : List A) →
    Each (λ x. (f x ≡ 0) ⊎ (list_any (λ c. has c x) cs ≡ true)) xs
    → sum_by f xs ≤ sum_by (λ c. sum_by (λ x. cond (has c x) (f x) 0) xs) cs
sum_by_classes f has cs [] h = omega arith
sum_by_classes f has cs (x ∷ xs) h =
    let rest = sum_by_classes f has cs xs h.1 in
    let whole = sum_by-cons f x xs in
    let by_class = sum_same (λ c. sum_by (λ x. cond (has c x) (f x) 0) (x ∷ xs)) (λ c. cond (has c x) (f x) 0 + sum_by (λ x. cond (has c x) (f x) 0) xs) cs
    (each (λ c. sum_by (λ x. cond (has c x) (f x) 0) (x ∷ xs) ≡ cond (has c x) (f x) 0 + sum_by (λ x. cond (has c x) (f x) 0) xs)
    (λ c. sum_by-cons (λ x. cond (has c x) (f x) 0) x xs) cs) in
    let split = sum_add (λ c. cond (has c x) (f x) 0) (λ c. sum_by (λ x. cond (has c x) (f x) 0) xs) cs in
    let here = own h.0 in
    omega (arith, rest, whole, by_class, split, here)
  where
    own : (f x ≡ 0) ⊎ (list_any (λ c. has c x) cs ≡ true) → f x ≤ sum_by (λ c. cond (has c x) (f x) 0) cs
    own (inl none) = omega (arith, none)
    own (inr some) = counted_once (λ c. has c x) (f x) cs some

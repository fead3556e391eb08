-- What holds of each two elements of a list, and so that none stands twice.
use Rattle.std.specs.Prelude.{◌≡◌, ◌≢◌, ℕ, suc, ◌≤◌, ◌==◌, Bool, true, false, cond, not, T, List, [], ◌∷◌, ◌++◌, map, Some, filter, length}
use Rattle.std.proofs.Common.{◌⊎◌, inl, inr, refl, sym, ap, subst, ◌∙◌, arith, is_lt}
use Rattle.std.specs.Cmp.{tied_itself}
use Rattle.std.specs.FinMap.Entries.{find, below_all, is_sorted}
use Rattle.std.specs.Ordering.{eq_by_cmp, nat_cmp}
use Rattle.ns_types.specs.State.Limits.{is_distinct}
use Rattle.ns_types.specs.State.Lists.{Each, first_each}
use Rattle.ns_types.proofs.Lists.{not_both, filter_all, each}
use Rattle.ns_types.proofs.Named.{numbers as numbers_, one_number}
use Rattle.ns_types.proofs.Tables.{tied}
use Rattle.ns_types.proofs.Tests.{not_Some, same_Some, is_no, first, second}
use Rattle.ns_types.proofs.Elements.{each_found, each_passing, each_append, each_kept, each_of, each_still, filter_shorter, first_shorter}

-- an earlier element with a later one
abbrev pub Pairs : {A : Type 0} → (A → A → Type 0) → List A → Type 0
Pairs Q [] = Unit {0}
Pairs Q (x ∷ xs) = Each (Q x) xs × Pairs Q xs

module _ {A : Type 0} where
  pub pairs_of : (Q R : A → A → Type 0) → ((x y : A) → Q x y → R x y) → (xs : List A) → Pairs Q xs → Pairs R xs
  pairs_of Q R f [] h = tt
  pairs_of Q R f (x ∷ xs) h = (each_of (Q x) (R x) (f x) xs h.0, pairs_of Q R f xs h.1)

  pub pairs_still : (Q : A → A → Type 0) (p : A → Bool) (xs : List A) → Pairs Q xs → Pairs Q (filter p xs)
  pairs_still Q p [] h = tt
  pairs_still Q p (x ∷ xs) h = elim (p x) as (λ b. Pairs Q (cond b (x ∷ filter p xs) (filter p xs)))
      [ true ↦ (each_still (Q x) p xs h.0, pairs_still Q p xs h.1) | false ↦ pairs_still Q p xs h.1 ]

  pub pairs_append : (Q : A → A → Type 0) (xs : List A) (z : A) → Pairs Q xs → Each (λ x. Q x z) xs → Pairs Q (xs ++ z ∷ [])
  pairs_append Q [] z h k = (tt, tt)
  pairs_append Q (x ∷ xs) z h k = (each_append (Q x) xs (z ∷ []) h.0 (k.0, tt), pairs_append Q xs z h.1 k.1)

  -- of each element by itself, too
  pub pairs_with : (P : A → Type 0) (Q : A → A → Type 0) (xs : List A) → Each P xs → Pairs Q xs → Pairs (λ x y. P x × P y × Q x y) xs
  pairs_with P Q [] h k = tt
  pairs_with P Q (x ∷ xs) h k = (both xs h.1 k.0, pairs_with P Q xs h.1 k.1)
    where
      both : (ys : List A) → Each P ys → Each (Q x) ys → Each (λ y. P x × P y × Q x y) ys
      both [] a b = tt
      both (y ∷ ys) a b = ((h.0, a.0, b.0), both ys a.1 b.1)

  -- ---- those that pass

  pub pairs_where : (Q : A → A → Type 0) (p : A → Bool) (xs : List A) → Pairs (λ x y. p x ≡ true → p y ≡ true → Q x y) xs → Pairs Q (filter p xs)
  pairs_where Q p [] h = tt
  pairs_where Q p (x ∷ xs) h = elim (p x) as (λ b. p x ≡ b → Pairs Q (cond b (x ∷ filter p xs) (filter p xs))) [
    | true ↦ λ is. (
      each_of (λ y. (p x ≡ true → p y ≡ true → Q x y) × (p y ≡ true)) (Q x) (λ y k. k.0 is k.1) (filter p xs)
          (each_kept (λ y. p x ≡ true → p y ≡ true → Q x y) p xs h.0),
      pairs_where Q p xs h.1,
    )
    | false ↦ λ _. pairs_where Q p xs h.1
  ] refl

  pub pairs_among : (Q : A → A → Type 0) (p : A → Bool) (xs : List A) → Pairs Q (filter p xs) → Pairs (λ x y. p x ≡ true → p y ≡ true → Q x y) xs
  pairs_among Q p [] h = tt
  pairs_among Q p (x ∷ xs) h = elim (p x) as (λ b. p x ≡ b → Pairs Q (cond b (x ∷ filter p xs) (filter p xs)) → Each (λ y. p x ≡ true → p y ≡ true → Q x y) xs ×
      Pairs (λ x y. p x ≡ true → p y ≡ true → Q x y) xs) [
        | true ↦ λ _ k. (
          each_of (λ y. p y ≡ true → Q x y) (λ y. p x ≡ true → p y ≡ true → Q x y) (λ y q _ on. q on) xs (each_passing (Q x) p xs k.0),
          pairs_among Q p xs k.1,
        )
        | false ↦ λ off_ k. (each (λ y. p x ≡ true → p y ≡ true → Q x y) (λ y on _. not_both on off_) xs, pairs_among Q p xs k)
      ] refl h

-- ---- lists made of lists

module _ {A B : Type 0} (f : A → B) where
  pub pairs_mapped : (Q : B → B → Type 0) (xs : List A) → Pairs (λ x y. Q (f x) (f y)) xs → Pairs Q (map f xs)
  pairs_mapped Q [] h = tt
  pairs_mapped Q (x ∷ xs) h = (to xs h.0, pairs_mapped Q xs h.1)
    where
      to : (ys : List A) → Each (λ y. Q (f x) (f y)) ys → Each (Q (f x)) (map f ys)
      to [] k = tt
      to (y ∷ ys) k = (k.0, to ys k.1)

  pub pairs_of_mapped : (Q : B → B → Type 0) (xs : List A) → Pairs Q (map f xs) → Pairs (λ x y. Q (f x) (f y)) xs
  pairs_of_mapped Q [] h = tt
  pairs_of_mapped Q (x ∷ xs) h = (from xs h.0, pairs_of_mapped Q xs h.1)
    where
      from : (ys : List A) → Each (Q (f x)) (map f ys) → Each (λ y. Q (f x) (f y)) ys
      from [] k = tt
      from (y ∷ ys) k = (k.0, from ys k.1)

-- ---- none stands twice

equal_of : (a b : ℕ) → (a == b) ≡ true → a ≡ b
equal_of a b e = grind arith

equal_to : (a b : ℕ) → a ≡ b → (a == b) ≡ true
equal_to a b e = grind arith

squeezed : (a b c : ℕ) → a ≤ b → b ≤ c → suc a ≡ suc c → b ≡ c
squeezed a b c p q e = omega arith

one_down : (a b : ℕ) → suc a ≡ suc b → a ≡ b
one_down a b e = omega arith

too_few : (a b : ℕ) → a ≤ b → a ≡ suc b → ⊥
too_few a b le e = omega arith

module _ {A : Type 0} where
  all_left : (f : A → Bool) (xs : List A) → length (filter f xs) ≡ length xs → Each (λ x. f x ≡ true) xs
  all_left f [] e = tt
  all_left f (x ∷ xs) e = elim (f x) as (λ b. f x ≡ b → length (cond b (x ∷ filter f xs) (filter f xs)) ≡ suc (length xs) → (f x ≡ true) ×
      Each (λ x. f x ≡ true) xs) [
        | true ↦ λ is e. (is, all_left f xs (one_down _ _ e))
        | false ↦ λ _ e. absurd (too_few _ _ (filter_shorter f xs) e)
      ] refl e

  module _ (same : A → A → Bool) where
    abbrev Differs : A → A → Type 0
    Differs x y = same x y ≡ false

    all_firsts : (xs : List A) → length (first_each same xs) ≡ length xs → (first_each same xs ≡ xs) × Pairs Differs xs
    all_firsts [] e = (refl, tt)
    all_firsts (x ∷ xs) e =
        let few = filter_shorter (λ y. not (same x y)) (first_each same xs) in
        let rest = all_firsts xs (squeezed _ _ _ few (first_shorter same xs) e) in
        let passes = all_left (λ y. not (same x y)) (first_each same xs) (one_down _ _ e ∙ sym (ap length rest.0)) in (
          ap (λ r. x ∷ r) (filter_all (λ y. not (same x y)) (first_each same xs) passes ∙ rest.0),
          (each_of (λ y. not (same x y) ≡ true) (Differs x) (λ y k. is_no (same x y) k) xs (subst (Each (λ y. not (same x y) ≡ true)) rest.0 passes), rest.1),
        )

    pub pairs_of_distinct : (xs : List A) → is_distinct same xs ≡ true → Pairs (λ x y. same x y ≡ false) xs
    pairs_of_distinct xs e = (all_firsts xs (equal_of _ _ e)).1

    firsts_of_pairs : (xs : List A) → Pairs Differs xs → first_each same xs ≡ xs
    firsts_of_pairs [] h = refl
    firsts_of_pairs (x ∷ xs) h = ap (λ r. x ∷ r) (ap (filter (λ y. not (same x y))) (firsts_of_pairs xs h.1)
        ∙ filter_all (λ y. not (same x y)) xs (each_of (Differs x) (λ y. not (same x y) ≡ true) (λ y k. ap not k) xs h.0))

    pub distinct_of_pairs : (xs : List A) → Pairs (λ x y. same x y ≡ false) xs → is_distinct same xs ≡ true
    distinct_of_pairs xs h = equal_to _ _ (ap length (firsts_of_pairs xs h))

-- ---- rows by number

module _ {X : Type 0} where
  -- entries in order have each its own number
  pub pairs_sorted : (es : List (ℕ × X)) → T (is_sorted nat_cmp es) → Pairs (λ x y. x.0 ≢ y.0) es
  pairs_sorted [] h = tt
  pairs_sorted (x ∷ xs) h = (above xs (first (below_all nat_cmp x.0 xs) _ h), pairs_sorted xs (second (below_all nat_cmp x.0 xs) _ h))
    where
      above : (ys : List (ℕ × X)) → T (below_all nat_cmp x.0 ys) → Each (λ y. x.0 ≢ y.0) ys
      above [] k = tt
      above (y ∷ ys) k = (
        (λ same. subst T (ap is_lt (ap (nat_cmp x.0) (sym same) ∙ tied_itself numbers_ x.0)) (first (is_lt (nat_cmp x.0 y.0)) _ k)),
        above ys
            (second (is_lt (nat_cmp x.0 y.0)) _ k),
      )

  -- what holds of each two entries, in either order, holds of the rows at two numbers
  pub pairs_at : (Q : ℕ × X → ℕ × X → Type 0) → ((x y : ℕ × X) → Q x y → Q y x) → (es : List (ℕ × X)) → Pairs Q es → (m n : ℕ) (v w : X) →
      find nat_cmp m es ≡ Some v → find nat_cmp n es ≡ Some w → (m ≡ n) ⊎ Q (m, v) (n, w)
  pairs_at Q turn [] h m n v w a b = absurd (not_Some _ a)
  pairs_at Q turn (e ∷ es) h m n v w a b = by (pairs_at Q turn es h.1 m n v w) (eq_by_cmp nat_cmp m e.0) refl a (eq_by_cmp nat_cmp n e.0) refl b
    where
      by : (find nat_cmp m es ≡ Some v → find nat_cmp n es ≡ Some w → (m ≡ n) ⊎ Q (m, v) (n, w))
          → (c : Bool) → eq_by_cmp nat_cmp m e.0 ≡ c → cond c (Some e.1) (find nat_cmp m es) ≡ Some v → (d : Bool) → eq_by_cmp nat_cmp n e.0 ≡ d →
          cond d (Some e.1) (find nat_cmp n es) ≡ Some w → (m ≡ n) ⊎ Q (m, v) (n, w)
      by later true s a true t b = inl (tied one_number m e.0 s ∙ sym (tied one_number n e.0 t))
      by later true s a false t b = inr (subst (λ x. Q x (n, w)) (λ i. (sym (tied one_number m e.0 s) i, same_Some e.1 v a i))
          (each_found one_number (Q e) es h.0 n w b))
      by later false s a true t b = inr (turn (n, w) (m, v)
          (subst (λ x. Q x (m, v)) (λ i. (sym (tied one_number n e.0 t) i, same_Some e.1 w b i)) (each_found one_number (Q e) es h.0 m v a)))
      by later false s a false t b = later a b

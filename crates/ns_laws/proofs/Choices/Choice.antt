-- The best of a list under an order, and the shortest prefix that will do.
use Rattle.std.specs.Prelude.{◌≡◌, ℕ, zero, suc, ◌+◌, ◌<◌, ◌≤◌, Bool, true, false, cond, not, ◌&&◌, List, [], ◌∷◌, ◌++◌, length, take, slice_get, position}
use Rattle.std.specs.Prelude.{Option, Some, None, option_map}
use Rattle.std.proofs.Common.{refl, sym, ap, subst, ◌∙◌, arith}
use Rattle.std.specs.Cmp.{IsStrictWeakOrder}
use Rattle.std.specs.List.{list_all, position_or_len}
use Rattle.std.proofs.Common.{get_or, ltb, ◌⊎◌, inl, inr}
use Rattle.std.proofs.lemmas.Bool.{ltb-false}
use Rattle.std.proofs.lemmas.List.Quantifiers.{position-Some}
use Rattle.std.proofs.lemmas.Option.{slice_get-get_or, none-some, same_Some}
use Rattle.ns_types.specs.Placing.Choice.{is_unbeaten, best, shortest_prefix}
use Rattle.ns_types.specs.State.Lists.{Each}
use Rattle.ns_types.proofs.Lists.{not_both, each_map}
use Rattle.ns_types.proofs.Named.{first_of_both, second_of_both}
use Rattle.ns_types.proofs.Elements.{each_from_all, all_from_each}

-- ---- the place of the first that passes

module _ {X : Type 0} where
  some_place : (p : X → Bool) (xs : List X) (k : ℕ) → position p xs ≡ Some k → (x : X) × (slice_get xs k ≡ Some x) × (p x ≡ true)
  some_place p [] k e = absurd (none-some k e)
  some_place p (x ∷ xs) k e =
      let is = position-Some p (x ∷ xs) k x e in
      (get_or (x ∷ xs) k x, slice_get-get_or (x ∷ xs) k x is.0, is.1)

  none_before : (p : X → Bool) (xs : List X) → length xs ≤ position_or_len p xs → Each (λ x. p x ≡ false) xs
  none_before p [] h = tt
  none_before p (x ∷ xs) h = by (p x) refl h (none_before p xs)
    where
      by : (b : Bool) → p x ≡ b → suc (length xs) ≤ cond (not b) (1 + position_or_len p xs) 0
          → (length xs ≤ position_or_len p xs → Each (λ x. p x ≡ false) xs) → Each (λ x. p x ≡ false) (x ∷ xs)
      by true e h go = absurd (omega (arith, h))
      by false e h go = (e, go (omega (arith, h)))

  no_place : (p : X → Bool) (xs : List X) → position p xs ≡ None → Each (λ x. p x ≡ false) xs
  no_place p xs e = none_before p xs (by (ltb (position_or_len p xs) (length xs)) refl e)
    where
      by : (b : Bool) → ltb (position_or_len p xs) (length xs) ≡ b → cond b (Some (position_or_len p xs)) None ≡ None → length xs ≤ position_or_len p xs
      by true f e = absurd (none-some _ (sym e))
      by false f e = ltb-false _ _ f

  head_or : X → List X → X
  head_or d [] = d
  head_or d (x ∷ xs) = x

  tail_of : List X → List X
  tail_of [] = []
  tail_of (x ∷ xs) = xs

-- ---- the best

module _ {X : Type 0} (passes : X → Bool) (beats : X → X → Bool) where
  abbrev IsAtLeast : List X → X → Type 0
  IsAtLeast xs y = Each (λ z. passes z ≡ true → beats z y ≡ false) xs

  unbeaten_by : (z y : X) → not (passes z && beats z y) ≡ true → passes z ≡ true → beats z y ≡ false
  unbeaten_by z y e p = by (passes z) (beats z y) p e
    where
      by : (a b : Bool) → a ≡ true → not (a && b) ≡ true → b ≡ false
      by true true p e = not_both refl (sym e)
      by true false p e = refl
      by false b p e = not_both p refl

  pub best_is : (xs : List X) (k : ℕ) → best passes beats xs ≡ Some k → (x : X) × (slice_get xs k ≡ Some x) × (passes x ≡ true) × IsAtLeast xs x
  best_is xs k e =
      let found = some_place (is_unbeaten passes beats xs) xs k e in
      let x = found.0 in (
        x,
        found.1,
        first_of_both (passes x) _ found.2,
        each_map (λ z f. unbeaten_by z x f) xs (each_from_all (λ y. not (passes y && beats y x)) xs (second_of_both (passes x) _ found.2)),
      )

  irreflexive : IsStrictWeakOrder beats → (x : X) → beats x x ≡ false
  irreflexive o x = by (beats x x) refl
    where
      by : (b : Bool) → beats x x ≡ b → beats x x ≡ false
      by true e = o.one_way x x e
      by false e = e

  -- none passes, or one that is as Q has it passes, and none that passes beats it
  abbrev HasBest : (X → Type 0) → List X → Type 0
  HasBest Q xs = Each (λ z. passes z ≡ false) xs ⊎ ((y : X) × Q y × (passes y ≡ true) × IsAtLeast xs y)

  has_best : IsStrictWeakOrder beats → (Q : X → Type 0) (xs : List X) → Each Q xs → HasBest Q xs
  has_best o Q [] h = inl tt
  has_best o Q (x ∷ xs) h = by (passes x) refl (has_best o Q xs h.1)
    where
      wins : (y z : X) → beats x y ≡ true → beats z y ≡ false → beats z x ≡ false
      wins y z e f = o.chain z y x f (o.one_way x y e)

      stays : (y : X) → Q y → passes y ≡ true → IsAtLeast xs y → (b : Bool) → beats x y ≡ b → passes x ≡ true → HasBest Q (x ∷ xs)
      stays y q p least true e px = inr (x, h.0, px, ((λ _. irreflexive o x), each_map (λ z f g. wins y z e (f g)) xs least))
      stays y q p least false e px = inr (y, q, p, ((λ _. e), least))

      by : (b : Bool) → passes x ≡ b → HasBest Q xs → HasBest Q (x ∷ xs)
      by true e (inl none) = inr (x, h.0, e, ((λ _. irreflexive o x), each_map (λ z f g. not_both g f) xs none))
      by true e (inr b) = stays b.0 b.1 b.2 b.3 (beats x b.0) refl e
      by false e (inl none) = inl (e, none)
      by false e (inr b) = inr (b.0, b.1, b.2, ((λ g. not_both g e), b.3))

  beaten_by : (y : X) (xs : List X) → IsAtLeast xs y → list_all (λ z. not (passes z && beats z y)) xs ≡ true
  beaten_by y xs least = all_from_each _ xs (each_map (λ z f. by (passes z) (beats z y) refl refl f) xs least)
    where
      by : {z : X} (a b : Bool) → passes z ≡ a → beats z y ≡ b → (passes z ≡ true → beats z y ≡ false) → not (passes z && beats z y) ≡ true
      by {z} true b e g f = ap (λ c. not (passes z && c)) (f e) ∙ ap (λ c. not (c && false)) e
      by {z} false b e g f = ap (λ c. not (c && beats z y)) e

  pub best_of_none : IsStrictWeakOrder beats → (xs : List X) → best passes beats xs ≡ None → Each (λ z. passes z ≡ false) xs
  best_of_none o xs e = by (has_best o (λ y. is_unbeaten passes beats xs y ≡ false) xs (no_place (is_unbeaten passes beats xs) xs e))
    where
      by : HasBest (λ y. is_unbeaten passes beats xs y ≡ false) xs → Each (λ z. passes z ≡ false) xs
      by (inl none) = none
      by (inr b) = not_both (ap (λ c. c && list_all (λ z. not (passes z && beats z b.0)) xs) b.2 ∙ beaten_by b.0 xs b.3) b.1

-- ---- the shortest prefix

module _ {X : Type 0} where
  -- it serves, it is a prefix, and no shorter one serves
  abbrev pub IsShortest : (List X → Bool) → List X → List X → Type 0
  IsShortest serves xs ys =
      (rest : List X) × (xs ≡ ys ++ rest) × (serves ys ≡ true) × ((n : ℕ) → n < length ys → serves (take n xs) ≡ false)

  pub shortest_is : (serves : List X → Bool) (xs ys : List X) → shortest_prefix serves xs ≡ Some ys → IsShortest serves xs ys
  shortest_is serves [] ys e = by (serves []) refl e
    where
      by : (b : Bool) → serves [] ≡ b → cond b (Some []) None ≡ Some ys → IsShortest serves [] ys
      by true f e = let is = same_Some [] ys e in subst (IsShortest serves []) is ([], refl, f, λ n lt. absurd (omega (arith, lt)))
      by false f e = absurd (none-some ys e)
  shortest_is serves (x ∷ xs) ys e = by (serves []) refl (shortest_prefix (λ zs. serves (x ∷ zs)) xs) refl e (shortest_is (λ zs. serves (x ∷ zs)) xs)
    where
      more : (zs : List X) → serves [] ≡ false → IsShortest (λ zs. serves (x ∷ zs)) xs zs → IsShortest serves (x ∷ xs) (x ∷ zs)
      more zs f is = (is.0, ap (λ l. x ∷ l) is.1, is.2, least)
        where
          least : (n : ℕ) → n < length (x ∷ zs) → serves (take n (x ∷ xs)) ≡ false
          least zero lt = f
          least (suc n) lt = is.3 n (omega (arith, lt))

      by : (b : Bool) → serves [] ≡ b → (o : Option (List X)) → shortest_prefix (λ zs. serves (x ∷ zs)) xs ≡ o
          → cond b (Some []) (option_map (λ zs. x ∷ zs) o) ≡ Some ys
          → ((zs : List X) → shortest_prefix (λ zs. serves (x ∷ zs)) xs ≡ Some zs → IsShortest (λ zs. serves (x ∷ zs)) xs zs) → IsShortest serves (x ∷ xs) ys
      by true f o is e go = subst (IsShortest serves (x ∷ xs)) (same_Some [] ys e) (x ∷ xs, refl, f, λ n lt. absurd (omega (arith, lt)))
      by false f None is e go = absurd (none-some ys e)
      by false f (Some zs) is e go = subst (IsShortest serves (x ∷ xs)) (same_Some (x ∷ zs) ys e) (more zs f (go zs is))

  pub shortest_none : (serves : List X → Bool) (xs : List X) → shortest_prefix serves xs ≡ None → (n : ℕ) → serves (take n xs) ≡ false
  shortest_none serves [] e n = by (serves []) refl e n
    where
      by : (b : Bool) → serves [] ≡ b → cond {A = Option (List X)} b (Some []) None ≡ None → (n : ℕ) → serves (take n []) ≡ false
      by true f e n = absurd (none-some [] (sym e))
      by false f e zero = f
      by false f e (suc n) = f
  shortest_none serves (x ∷ xs) e n = by (serves []) refl (shortest_prefix (λ zs. serves (x ∷ zs)) xs) refl e (shortest_none (λ zs. serves (x ∷ zs)) xs) n
    where
      by : (b : Bool) → serves [] ≡ b → (o : Option (List X)) → shortest_prefix (λ zs. serves (x ∷ zs)) xs ≡ o →
          cond b (Some []) (option_map (λ zs. x ∷ zs) o) ≡ None
          → (shortest_prefix (λ zs. serves (x ∷ zs)) xs ≡ None → (n : ℕ) → serves (x ∷ take n xs) ≡ false) → (n : ℕ) → serves (take n (x ∷ xs)) ≡ false
      by true f o is e go n = absurd (none-some [] (sym e))
      by false f (Some zs) is e go n = absurd (none-some (x ∷ zs) (sym e))
      by false f None is e go zero = f
      by false f None is e go (suc n) = go is n

  pub is_shortest : (serves : List X → Bool) (xs ys : List X) → IsShortest serves xs ys → shortest_prefix serves xs ≡ Some ys
  unfolding head_or tail_of
  is_shortest serves [] [] is = ap (λ b. cond b (Some []) None) is.2
  is_shortest serves [] (y ∷ ys) is = absurd (nothing is.1)
    where
      nothing : [] ≡ y ∷ (ys ++ is.0) → ⊥
      nothing e = let l = ap length e in omega arith
  is_shortest serves (x ∷ xs) [] is = ap (λ b. cond b (Some []) (option_map (λ zs. x ∷ zs) (shortest_prefix (λ zs. serves (x ∷ zs)) xs))) is.2
  is_shortest serves (x ∷ xs) (y ∷ ys) is =
      let head : x ≡ y = ap (head_or x) is.1 in
      let tail : xs ≡ ys ++ is.0 = ap tail_of is.1 in
      let rest = is_shortest (λ zs. serves (x ∷ zs)) xs ys (is.0, tail, ap (λ z. serves (z ∷ ys)) head ∙ is.2, λ n lt. is.3 (suc n) (omega (arith, lt))) in
      ap (λ b. cond b (Some []) (option_map (λ zs. x ∷ zs) (shortest_prefix (λ zs. serves (x ∷ zs)) xs))) (is.3 0 (omega arith))
      ∙ ap (option_map (λ zs. x ∷ zs)) rest ∙ ap (λ z. Some (z ∷ ys)) head

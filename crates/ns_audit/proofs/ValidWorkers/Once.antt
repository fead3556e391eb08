-- Lists of which nothing stands twice.
use Rattle.std.specs.Prelude.{◌≡◌, ◌≤◌, Bool, true, false, cond, not, List, [], ◌∷◌, ◌++◌, length, ◌&&◌, ◌||◌, filter}
use Rattle.std.proofs.Common.{◌⊎◌, inl, inr, refl, sym, ap, subst, ◌∙◌, arith}
use Rattle.std.proofs.lemmas.Bool.{eqb-true, eq-eqb, or_right}
use Rattle.std.proofs.lemmas.List.Folds.{list_any-append}
use Rattle.std.specs.List.{list_any}
use Rattle.ns_types.specs.State.Limits.{is_distinct}
use Rattle.ns_types.specs.State.Lists.{first_each}
use Rattle.ns_types.specs.State.Names.{Key, same_key, has_key}
use Rattle.ns_types.proofs.Lists.{not_both, left_none, right_none, any_part}
use Rattle.ns_types.proofs.Named.{first_of_both, second_of_both, same_key_is, same_key_refl}
use Rattle.ns_types.proofs.Tests.{is_no, either_of}
use Rattle.ns_types.proofs.Elements.{filter_shorter, first_shorter}
use Rattle.std.proofs.Math.Bool.{or-false}

-- none of those that follow is the same
abbrev pub is_once : {X : Type 0} → (X → X → Bool) → List X → Bool
is_once same [] = true
is_once same (x ∷ xs) = not (list_any (same x) xs) && is_once same xs

pub on : (b : Bool) → b ≡ false → not b ≡ true
on true e = sym e
on false e = refl

module _ {A : Type 0} where
  -- a filter that drops none
  all_pass : (p : A → Bool) (xs : List A) → length xs ≤ length (filter p xs) → (filter p xs ≡ xs) × (list_any (λ x. not (p x)) xs ≡ false)
  all_pass p [] h = (refl, refl)
  all_pass p (x ∷ xs) h = by (p x) refl (all_pass p xs) (filter_shorter p xs) h
    where
      by : (b : Bool) → p x ≡ b → (length xs ≤ length (filter p xs) → (filter p xs ≡ xs) × (list_any (λ x. not (p x)) xs ≡ false)) →
          length (filter p xs) ≤ length xs
          → length (x ∷ xs) ≤ length (cond b (x ∷ filter p xs) (filter p xs)) → (cond b (x ∷ filter p xs) (filter p xs) ≡ x ∷ xs) ×
          ((not (p x) || list_any (λ x. not (p x)) xs) ≡ false)
      by true t later few h = let r = later (omega arith) in (ap (λ ys. x ∷ ys) r.0, λ i. not (t i) || r.1 i)
      by false t later few h = absurd (omega arith)

  double_not : (p : A → Bool) (xs : List A) → list_any (λ x. not (not (p x))) xs ≡ list_any p xs
  double_not p [] = refl
  double_not p (x ∷ xs) = λ i. twice (p x) i || double_not p xs i
    where
      twice : (b : Bool) → not (not b) ≡ b
      twice true = refl
      twice false = refl

  once_of : (same : A → A → Bool) (xs : List A) → length xs ≤ length (first_each same xs) → (first_each same xs ≡ xs) × (is_once same xs ≡ true)
  once_of same [] h = (refl, refl)
  once_of same (x ∷ xs) h =
      let few = filter_shorter (λ y. not (same x y)) (first_each same xs) in
      let fewer = first_shorter same xs in
      let rest = once_of same xs (omega arith) in
      let kept = all_pass (λ y. not (same x y)) (first_each same xs) (omega arith) in
      let none = sym (double_not (same x) xs) ∙ ap (list_any (λ y. not (not (same x y)))) (sym rest.0) ∙ kept.1 in
      (ap (λ ys. x ∷ ys) (kept.0 ∙ rest.0), λ i. not (none i) && rest.1 i)

  pub distinct_once : (same : A → A → Bool) (xs : List A) → is_distinct same xs ≡ true → is_once same xs ≡ true
  distinct_once same xs e = let n = eqb-true (length (first_each same xs)) (length xs) e in (once_of same xs (omega arith)).1

  pass_all : (p : A → Bool) (xs : List A) → list_any (λ x. not (p x)) xs ≡ false → filter p xs ≡ xs
  pass_all p [] e = refl
  pass_all p (x ∷ xs) e = by (p x) refl (pass_all p xs (right_none (not (p x)) _ e))
    where
      by : (b : Bool) → p x ≡ b → filter p xs ≡ xs → cond b (x ∷ filter p xs) (filter p xs) ≡ x ∷ xs
      by true t rest = ap (λ ys. x ∷ ys) rest
      by false t rest = not_both (ap not t) (left_none (not (p x)) _ e)

  each_first_once : (same : A → A → Bool) (xs : List A) → is_once same xs ≡ true → first_each same xs ≡ xs
  each_first_once same [] e = refl
  each_first_once same (x ∷ xs) e =
      let rest = each_first_once same xs (second_of_both (not (list_any (same x) xs)) _ e) in
      ap (λ ys. x ∷ ys) (ap (filter (λ y. not (same x y))) rest ∙
      pass_all (λ y. not (same x y)) xs (double_not (same x) xs ∙ is_no (list_any (same x) xs) (first_of_both _ _ e)))

  pub once_distinct : (same : A → A → Bool) (xs : List A) → is_once same xs ≡ true → is_distinct same xs ≡ true
  once_distinct same xs e = eq-eqb (length (first_each same xs)) (length xs) (ap length (each_first_once same xs e))

-- ---- keys

other_way : (a b : Key) → same_key a b ≡ false → same_key b a ≡ false
other_way a b e = by (same_key b a) refl
  where
    by : (c : Bool) → same_key b a ≡ c → c ≡ false
    by true t = let k = same_key_is b a t in not_both (subst (λ (x : Key). same_key a x ≡ true) (λ i. (sym k.0 i, sym k.1 i)) (same_key_refl a)) e
    by false _ = refl

-- a key that is not there yet
pub once_append : (keys : List Key) (key : Key) → is_once same_key keys ≡ true → has_key keys key ≡ false → is_once same_key (keys ++ key ∷ []) ≡ true
once_append [] key e none = refl
once_append (x ∷ xs) key e none = λ i. not (fresh i)
    && once_append xs key (second_of_both (not (list_any (same_key x) xs)) _ e) (right_none (same_key key x) _ none) i
  where
    fresh : list_any (same_key x) (xs ++ key ∷ []) ≡ false
    fresh = list_any-append (same_key x) xs (key ∷ []) ∙
        (λ i. is_no (list_any (same_key x) xs) (first_of_both _ _ e) i || (other_way key x (left_none (same_key key x) _ none) i || false))

pub once_filter : {A : Type 0} (same : A → A → Bool) (p : A → Bool) (xs : List A) → is_once same xs ≡ true → is_once same (filter p xs) ≡ true
once_filter same p [] e = refl
once_filter same p (x ∷ xs) e = elim (p x) as (λ b. is_once same (cond b (x ∷ filter p xs) (filter p xs)) ≡ true) [
  | true ↦ λ i. on _ (any_part p (same x) xs (is_no (list_any (same x) xs) (first_of_both _ _ e))) i
      && once_filter same p xs (second_of_both (not (list_any (same x) xs)) _ e) i
  | false ↦ once_filter same p xs (second_of_both (not (list_any (same x) xs)) _ e)
]

-- ---- what a filter leaves

pub has_key_still : (p : Key → Bool) (keys : List Key) (key : Key) → has_key keys key ≡ true → p key ≡ true → has_key (filter p keys) key ≡ true
has_key_still p [] key e passes = e
has_key_still p (x ∷ xs) key e passes = by (p x) refl (either_of (same_key key x) _ e) (λ r. has_key_still p xs key r passes)
  where
    use_ : (b : Bool) → p x ≡ b → same_key key x ≡ true → has_key (cond b (x ∷ filter p xs) (filter p xs)) key ≡ true
    use_ true t here = ap (λ c. c || has_key (filter p xs) key) here
    use_ false t here = let k = same_key_is key x here in not_both (ap p (λ i. (sym k.0 i, sym k.1 i)) ∙ passes) t

    by : (b : Bool) → p x ≡ b → (same_key key x ≡ true) ⊎ (has_key xs key ≡ true) → (has_key xs key ≡ true → has_key (filter p xs) key ≡ true) →
        has_key (cond b (x ∷ filter p xs) (filter p xs)) key ≡ true
    by b t (inl here) later = use_ b t here
    by true t (inr there) later = or_right (same_key key x) _ (later there)
    by false t (inr there) later = later there

pub has_key_last : (keys : List Key) (key : Key) → has_key (keys ++ key ∷ []) key ≡ true
has_key_last [] key = λ i. same_key_refl key i || false
has_key_last (x ∷ xs) key = or_right (same_key key x) _ (has_key_last xs key)

pub has_key_other : (keys : List Key) (k key : Key) → same_key key k ≡ false → has_key (keys ++ k ∷ []) key ≡ has_key keys key
has_key_other keys k key differs = list_any-append (same_key key) keys (k ∷ []) ∙ (λ i. has_key keys key || (differs i || false)) ∙ or-false (has_key keys key)

-- a list without a key
pub without_it : (keys : List Key) (key : Key) → has_key (filter (λ other. not (same_key key other)) keys) key ≡ false
without_it [] key = refl
without_it (x ∷ xs) key = by (same_key key x) refl (without_it xs key)
  where
    by : (b : Bool) → same_key key x ≡ b → has_key (filter (λ other. not (same_key key other)) xs) key ≡ false
        → has_key (cond (not b) (x ∷ filter (λ other. not (same_key key other)) xs) (filter (λ other. not (same_key key other)) xs)) key ≡ false
    by true t rest = rest
    by false t rest = λ i. t i || rest i

pub without_other : (keys : List Key) (k key : Key) → same_key key k ≡ false → has_key (filter (λ other. not (same_key k other)) keys) key ≡ has_key keys key
without_other [] k key differs = refl
without_other (x ∷ xs) k key differs = by (same_key k x) refl (without_other xs k key differs)
  where
    by : (b : Bool) → same_key k x ≡ b → has_key (filter (λ other. not (same_key k other)) xs) key ≡ has_key xs key
        → has_key (cond (not b) (x ∷ filter (λ other. not (same_key k other)) xs) (filter (λ other. not (same_key k other)) xs)) key ≡
        (same_key key x || has_key xs key)
    by true t rest = let p = same_key_is k x t in rest ∙
        (λ i. (sym (subst (λ (y : Key). same_key key y ≡ false) (λ i. (p.0 i, p.1 i)) differs)) i || has_key xs key)
    by false t rest = λ i. same_key key x || rest i

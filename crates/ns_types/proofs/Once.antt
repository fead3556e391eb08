-- Keys of which each is kept once.
use Rattle.std.specs.Prelude.{◌≡◌, Bool, true, false, cond, not, T, List, [], ◌∷◌, ◌++◌, ◌&&◌, ◌||◌, filter}
use Rattle.std.proofs.Common.{refl, sym, ap, subst, ◌∙◌}
use Rattle.std.specs.Cmp.{eq_by_cmp_equiv}
use Rattle.std.proofs.lemmas.Bool.{or_right}
use Rattle.std.proofs.lemmas.List.{append-nil}
use Rattle.ns_types.specs.State.Lists.{Each, first_each}
use Rattle.ns_types.specs.State.Names.{Key, has_key, same_key, same_name}
use Rattle.ns_types.proofs.Elements.{each_still}
use Rattle.ns_types.proofs.Lists.{any_chosen, each, each_map, filter-append, not_both}
use Rattle.ns_types.proofs.Named.{names, one_name, numbers, one_number, first_of_both, second_of_both, same_key_refl}
use Rattle.ns_types.proofs.Tables.{tied}

abbrev pub once : List Key → List Key
once keys = first_each same_key keys

-- no key comes twice
abbrev pub AllApart : List Key → Type 0
AllApart [] = Unit {0}
AllApart (key ∷ keys) = Each (λ k. same_key k key ≡ false) keys × AllApart keys

pub key_is : (a b : Key) → same_key a b ≡ true → a ≡ b
key_is a b e = λ i. (tied one_name a.0 b.0 (first_of_both (same_name a.0 b.0) _ e) i, tied one_number a.1 b.1 (second_of_both (same_name a.0 b.0) _ e) i)

-- each key of a list is found in it
pub each_member : (keys : List Key) → Each (λ key. has_key keys key ≡ true) keys
each_member [] = tt
each_member (key ∷ keys) =
    (ap (λ b. b || has_key keys key) (same_key_refl key), each_map (λ other h. or_right (same_key other key) _ h) keys (each_member keys))

pub once_has : (keys : List Key) (k : Key) → has_key (once keys) k ≡ has_key keys k
once_has [] k = refl
once_has (x ∷ keys) k = by (once_has keys k) (same_key k x) refl
  where
    by : has_key (once keys) k ≡ has_key keys k → (b : Bool) → same_key k x ≡ b →
        (b || has_key (filter (λ y. not (same_key x y)) (once keys)) k) ≡ (b || has_key keys k)
    by later true t = refl
    by later false t = sym (any_chosen (λ y. not (same_key x y)) (same_key k) (once keys) (each _ (λ y. other y (same_key x y) refl) (once keys))) ∙ later
      where
        other : (y : Key) (b : Bool) → same_key x y ≡ b → not b ≡ false → same_key k y ≡ false
        other y true e _ = ap (same_key k) (sym (key_is x y e)) ∙ t
        other y false e n = absurd (subst T n tt)

module _ (p : Key → Bool) where
  apart_left : (xs : List Key) → AllApart xs → AllApart (filter p xs)
  apart_left [] h = tt
  apart_left (x ∷ xs) h =
      elim (p x) as (λ b. AllApart (cond b (x ∷ filter p xs) (filter p xs))) [
        | true ↦
            (each_still (λ k. same_key k x ≡ false) p xs h.0, apart_left xs h.1)
        | false ↦ apart_left xs h.1
      ]

pub once_apart : (keys : List Key) → AllApart (once keys)
once_apart [] = tt
once_apart (x ∷ keys) = (differs (once keys), apart_left (λ y. not (same_key x y)) (once keys) (once_apart keys))
  where
    turned : (y : Key) (b : Bool) → same_key y x ≡ b → (c : Bool) → same_key x y ≡ c → c ≡ false → b ≡ false
    turned y false e c f n = refl
    turned y true e c f n = not_both (ap (λ k. same_key k y) (sym (key_is y x e)) ∙ same_key_refl y) (f ∙ n)

    differs : (ys : List Key) → Each (λ k. same_key k x ≡ false) (filter (λ y. not (same_key x y)) ys)
    differs [] = tt
    differs (y ∷ ys) = by (differs ys) (same_key x y) refl
      where
        by : Each (λ k. same_key k x ≡ false) (filter (λ y. not (same_key x y)) ys) → (c : Bool) → same_key x y ≡ c →
            Each (λ k. same_key k x ≡ false) (cond (not c) (y ∷ filter (λ y. not (same_key x y)) ys) (filter (λ y. not (same_key x y)) ys))
        by later true e = later
        by later false e = (turned y (same_key y x) refl false e refl, later)

pub once_push : (keys : List Key) (k : Key) → once (keys ++ k ∷ []) ≡ cond (has_key keys k) (once keys) (once keys ++ k ∷ [])
once_push [] k = refl
once_push (x ∷ keys) k = ap (λ l. x ∷ filter (λ y. not (same_key x y)) l) (once_push keys k) ∙ by (has_key keys k) (same_key k x) refl
  where
    turned : same_key k x ≡ same_key x k
    turned = λ i. (eq_by_cmp_equiv names).symm k.0 x.0 i && (eq_by_cmp_equiv numbers).symm k.1 x.1 i

    at_end : (b : Bool) → same_key x k ≡ b →
        filter (λ y. not (same_key x y)) (once keys ++ k ∷ []) ≡ filter (λ y. not (same_key x y)) (once keys) ++ cond (not b) (k ∷ []) []
    at_end b e = filter-append (λ y. not (same_key x y)) (once keys) (k ∷ [])
        ∙ ap (λ b. filter (λ y. not (same_key x y)) (once keys) ++ cond (not b) (k ∷ []) []) e

    by : (h : Bool) (s : Bool) → same_key k x ≡ s → x ∷ filter (λ y. not (same_key x y)) (cond h (once keys) (once keys ++ k ∷ []))
        ≡ cond (s || h) (x ∷ filter (λ y. not (same_key x y)) (once keys)) ((x ∷ filter (λ y. not (same_key x y)) (once keys)) ++ k ∷ [])
    by true true e = refl
    by true false e = refl
    by false true e = ap (λ l. x ∷ l) (at_end true (sym turned ∙ e) ∙ append-nil (filter (λ y. not (same_key x y)) (once keys)))
    by false false e = ap (λ l. x ∷ l) (at_end false (sym turned ∙ e))

-- Lists of keys, and what is chosen of them.
use Rattle.std.specs.Prelude.{◌≡◌, ℕ, ◌+◌, ◌<◌, Bool, true, false, cond, ◌&&◌, ◌||◌, List, [], ◌∷◌, filter, length}
use Rattle.std.proofs.Common.{refl, sym, ap, ◌∙◌, get_or, drop, drop-cons, add-one}
use Rattle.std.proofs.Math.Bool.{and-false}
use Rattle.ns_types.proofs.Named.{same_key_refl}
use Rattle.ns_types.specs.State.Names.{Key, has_key, same_key}
use Rattle.ns_types.proofs.Once.{key_is}

pub from_here : {A : Type 0} (xs : List A) (i : ℕ) (x : A) → i < length xs → x ≡ get_or xs i x → drop i xs ≡ x ∷ drop (i + 1) xs
from_here xs i x lt is = drop-cons xs i x lt ∙ (λ j. sym is j ∷ drop (sym (add-one i) j) xs)

-- ---- keys that are chosen

pub has_filter : (p : Key → Bool) (q : Key) (xs : List Key) → has_key (filter p xs) q ≡ (p q && has_key xs q)
has_filter p q [] = sym (and-false (p q))
has_filter p q (x ∷ xs) = by (has_filter p q xs) (p x) refl (same_key q x) refl
  where
    alike : (b : Bool) → p x ≡ b → same_key q x ≡ true → p q ≡ b
    alike b e t = ap p (key_is q x t) ∙ e

    by : has_key (filter p xs) q ≡ (p q && has_key xs q) → (b : Bool) → p x ≡ b → (s : Bool) → same_key q x ≡ s →
        has_key (cond b (x ∷ filter p xs) (filter p xs)) q ≡ (p q && (s || has_key xs q))
    by later true e true t = ap (λ s. s || has_key (filter p xs) q) t ∙ sym (ap (λ b. b && true) (alike true e t))
    by later true e false t = ap (λ s. s || has_key (filter p xs) q) t ∙ later
    by later false e true t = later ∙ ap (λ b. b && has_key xs q) (alike false e t) ∙ sym (ap (λ b. b && true) (alike false e t))
    by later false e false t = later

pub filter_alike : (p q : Key → Bool) (xs : List Key) → ((x : Key) → has_key xs x ≡ true → p x ≡ q x) → filter p xs ≡ filter q xs
filter_alike p q [] e = refl
filter_alike p q (x ∷ xs) e = ap (λ b. cond b (x ∷ filter p xs) (filter p xs)) (e x (ap (λ b. b || has_key xs x) (same_key_refl x)))
    ∙ ap (λ l. cond (q x) (x ∷ l) l) (filter_alike p q xs (λ y h. e y (by y (same_key y x) h)))
  where
    by : (y : Key) (s : Bool) → has_key xs y ≡ true → (s || has_key xs y) ≡ true
    by y true h = refl
    by y false h = h

-- What tests say, and what may be absent.
use Rattle.std.specs.Prelude.{◌≡◌, Bool, true, false, not, T, ◌&&◌, ◌||◌, Option, Some, None, is_some, option_map, unwrap_or}
use Rattle.std.proofs.Common.{◌⊎◌, inl, inr, refl, sym, ap, subst}

-- ---- both

pub first : (a b : Bool) → T (a && b) → T a
first true b p = tt
first false b p = p

pub second : (a b : Bool) → T (a && b) → T b
second true b p = p
second false b p = absurd p

pub both : (a b : Bool) → T a → T b → T (a && b)
both true b p q = q
both false b p q = p

-- the second of three comes first
pub and_turned : (a b c : Bool) → (a && (b && c)) ≡ (b && (a && c))
and_turned true true c = refl
and_turned true false c = refl
and_turned false true c = refl
and_turned false false c = refl

pub and_yes : (b : Bool) → (b && true) ≡ false → b ≡ false
and_yes true is = is
and_yes false is = refl

-- ---- either

pub or_none : (b : Bool) → (b || false) ≡ b
or_none true = refl
or_none false = refl

pub either_of : (a b : Bool) → (a || b) ≡ true → (a ≡ true) ⊎ (b ≡ true)
either_of true b e = inl refl
either_of false b e = inr e

-- two of four change places
pub swap_or : (a b c d : Bool) → ((a || b) || (c || d)) ≡ ((a || c) || (b || d))
swap_or true b c d = refl
swap_or false true true d = refl
swap_or false true false d = refl
swap_or false false c d = refl

pub third_of_four : (a b c d : Bool) → c ≡ true → (a || b || c || d) ≡ true
third_of_four true b c d is = refl
third_of_four false true c d is = refl
third_of_four false false c d is = ap (λ c. c || d) is

-- ---- not

pub is_yes : (b : Bool) → not b ≡ false → b ≡ true
is_yes true e = refl
is_yes false e = sym e

pub is_no : (b : Bool) → not b ≡ true → b ≡ false
is_no true e = sym e
is_no false e = refl

-- ---- what may be absent

module _ {A : Type 0} where
  pub not_Some : (x : A) → None ≡ Some x → ⊥
  not_Some x e = subst T (sym (ap is_some e)) tt

  pub same_Some : (x y : A) → Some x ≡ Some y → x ≡ y
  same_Some x y e = ap (λ o. unwrap_or o x) e

  pub some_mapped : {B : Type 0} (f : A → B) (o : Option A) → is_some (option_map f o) ≡ is_some o
  some_mapped f None = refl
  some_mapped f (Some x) = refl

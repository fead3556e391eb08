-- Facts on numbers that digits write, and on the values of a name.
use Rattle.std.proofs.Common.{◌≡◌, ℕ, zero, suc, ◌+◌, ◌-◌, ◌*◌, ◌<◌, ◌≤◌, Bool, true, false, cond, List, [], ◌∷◌, ◌++◌, length, get_or, take, drop}
use Rattle.std.proofs.Common.{sym, refl, ap, ◌∙◌, arith}
use Rattle.std.specs.Prelude.{Ok, Err}
use Rattle.std.specs.List.{list_all}
use Rattle.std.proofs.lemmas.Bool.{and_parts, cond-true, cond-false, lt-leb, le-leb}
use Rattle.std.proofs.lemmas.Bool.Decides.{nat_tests}
use Rattle.ns_types.specs.declared.reply.HeadFault.TheVariants.{BadHead, TooLarge}
use Rattle.std.specs.Char.{is_ascii_digit, digit_value}
use Rattle.std.specs.Str.Parse.{digits_value_after, digits_value}
use Rattle.std.proofs.Math.Nat.{mul-le-mul_left}
use Rattle.std.proofs.lemmas.List.{take-append-drop}
use Rattle.ns_types.specs.Wire.Http.{Header, eq_ignore_case, values_named, is_length, length_of}

-- more digits make no smaller number
digits_value_after-ge : (radix : ℕ) (ds : List ℕ) (n : ℕ) → 1 ≤ radix → n ≤ digits_value_after radix n ds
digits_value_after-ge radix [] n some = omega arith
digits_value_after-ge radix (d ∷ ds) n some =
    omega (arith, mul-le-mul_left n some, digits_value_after-ge radix ds (n * radix + digit_value d) some)

digits_value_after-append : (radix n : ℕ) (xs ys : List ℕ) → digits_value_after radix n (xs ++ ys) ≡ digits_value_after radix (digits_value_after radix n xs) ys
digits_value_after-append radix n [] ys = refl
digits_value_after-append radix n (x ∷ xs) ys = digits_value_after-append radix (n * radix + digit_value x) xs ys

-- the first digits write no larger number than all of them
pub digits_value-take-le : (radix i : ℕ) (ds : List ℕ) → 1 ≤ radix → digits_value radix (take i ds) ≤ digits_value radix ds
digits_value-take-le radix i ds some =
    let whole = ap (digits_value radix) (sym (take-append-drop i ds)) ∙ digits_value_after-append radix 0 (take i ds) (drop i ds) in
    omega (arith, digits_value_after-ge radix (drop i ds) (digits_value radix (take i ds)) some)

-- what one more header adds
pub values_named-push : (name : List ℕ) (hs : List Header) (h : Header) → values_named name (hs ++ h ∷ []) ≡ values_named name hs ++
    cond (eq_ignore_case h.0 name) (h.1 ∷ []) []
values_named-push name [] h = refl
values_named-push name (x ∷ hs) h = by_test (eq_ignore_case x.0 name) (values_named-push name hs h)
  where
    by_test : (t : Bool) → values_named name (hs ++ h ∷ []) ≡ values_named name hs ++ cond (eq_ignore_case h.0 name) (h.1 ∷ []) [] →
        cond t (x.1 ∷ values_named name (hs ++ h ∷ [])) (values_named name (hs ++ h ∷ [])) ≡ cond t (x.1 ∷ values_named name hs) (values_named name hs) ++
        cond (eq_ignore_case h.0 name) (h.1 ∷ []) []
    by_test true e = ap (λ l. x.1 ∷ l) e
    by_test false e = e

-- an element of a list that passes everywhere passes
pub list_all-at : {X : Type 0} (p : X → Bool) (xs : List X) (i : ℕ) (d : X) → i < length xs → list_all p xs ≡ true → p (get_or xs i d) ≡ true
list_all-at p [] i d inside all = absurd (omega arith)
list_all-at p (x ∷ xs) zero d inside all = (and_parts _ _ all).0
list_all-at p (x ∷ xs) (suc i) d inside all = list_all-at p xs i d (omega arith) (and_parts _ _ all).1

pub length_of-bad : (v : List ℕ) → is_length v ≡ false → length_of v ≡ Err BadHead
unfolding length_of
length_of-bad v bad = cond-false _ _ _ bad

pub length_of-large : (v : List ℕ) → is_length v ≡ true → 1048576 < digits_value 10 v → length_of v ≡ Err TooLarge
unfolding length_of
length_of-large v good large = cond-true _ _ _ good ∙ cond-false _ _ _ (lt-leb (digits_value 10 v) 1048576 large)

pub length_of-ok : (v : List ℕ) → is_length v ≡ true → digits_value 10 v ≤ 1048576 → length_of v ≡ Ok (digits_value 10 v)
unfolding length_of
length_of-ok v good fits = cond-true _ _ _ good ∙ cond-true _ _ _ (le-leb (digits_value 10 v) 1048576 fits)

pub digit_of_length : (v : List ℕ) (i : ℕ) → is_length v ≡ true → i < length v → digit_value (get_or v i 0) ≡ get_or v i 0 - 48
digit_of_length v i good inside =
    let digit : is_ascii_digit (get_or v i 0) ≡ true = list_all-at is_ascii_digit v i 0 inside (and_parts _ _ (and_parts _ _ good).1).1 in
    grind (arith, nat_tests)

-- Numbers that digits write.
use Rattle.std.proofs.Common.{◌≡◌, ℕ, ◌<◌, ◌^◌, List, length, Option, Some, None, Bool, true, false, cond, ◌&&◌, Result, Ok, Err, refl, sym, ap, ◌∙◌, rules}
use Rattle.std.specs.Char.{is_ascii_digit}
use Rattle.std.specs.List.{list_all}
use Rattle.std.specs.Prelude.{nat_lt}
use Rattle.std.specs.Result.{OkIff, result_ok}
use Rattle.std.specs.Str.Parse.{ParsesUnsigned, digits_value}
use Rattle.std.proofs.lemmas.Bool.{lt-ltb, ltb-true}
use Rattle.std.proofs.lemmas.Str.Parse.{IsNumeralModel, numerals_by_value, parse_digits}
use Rattle.ns_types.proofs.Lists.{not_both}

own : IsNumeralModel (λ ds. list_all is_ascii_digit ds ≡ true) (digits_value 10)
own = numerals_by_value _ (search rules)

-- by whether these are digits alone
abbrev number_by : Bool → List ℕ → Option ℕ
number_by alone text =
    cond (alone && (nat_lt 0 (length text) && nat_lt (digits_value 10 text) (2 ^ 64))) (Some (digits_value 10 text)) None

pub number-none : (text : List ℕ) → list_all is_ascii_digit text ≡ false → None ≡ number_by (list_all is_ascii_digit text) text
number-none text bad = sym (ap (λ b. number_by b text) bad)

-- of digits, what `parse` reads
parsed : {E : Type 0} (text : List ℕ) (some fits : Bool) → nat_lt 0 (length text) ≡ some → nat_lt (digits_value 10 text) (2 ^ 64) ≡ fits →
    (r : Result ℕ E) → OkIff r ((0 < length text) × (digits_value 10 text < 2 ^ 64)) (digits_value 10 text)
    → result_ok r ≡ cond (some && fits) (Some (digits_value 10 text)) None
parsed text true true e f (Ok n) h = ap Some h.1
parsed text true true e f (Err x) h = absurd (h (ltb-true _ _ e, ltb-true _ _ f))
parsed text true false e f (Ok n) h = not_both (lt-ltb _ _ h.0.1) f
parsed text true false e f (Err x) h = refl
parsed text false fits e f (Ok n) h = not_both (lt-ltb _ _ h.0.0) e
parsed text false fits e f (Err x) h = refl

pub number-parsed : {E : Type 0} (text : List ℕ) (r : Result ℕ E) (read : Option ℕ) → list_all is_ascii_digit text ≡ true → ParsesUnsigned 64 10 text r →
    read ≡ result_ok r → read ≡ number_by (list_all is_ascii_digit text) text
number-parsed text r read alone parses is =
    is ∙ parsed text _ _ refl refl r (parse_digits own 64 text r parses alone) ∙ sym (ap (λ b. number_by b text) alone)

-- No line feed stands in the compact text of a value, or in a secret.
use Rattle.std.proofs.Common.{◌≡◌, ℕ, zero, suc, ◌+◌, ◌/◌, ◌%◌, ◌^◌, ◌<◌, ◌≤◌, ◌==◌, pos, negsuc, List, [], ◌∷◌, ◌++◌, Bool, true, false, not, ◌||◌}
use Rattle.std.proofs.Common.{nat_lt, cond, refl, sym, ap, ap₂, subst, ◌∙◌, arith, decimal, true≢false}
use Rattle.std.proofs.lemmas.Bool.{ltb-true, ltb-false, false≢true}
use Rattle.std.proofs.lemmas.Fmt.{decimal_is_IsNumeral}
use Rattle.std.proofs.lemmas.List.Concat.{flat_map-cons}
use Rattle.std.specs.List.{AllByRecursion, list_all}
use Rattle.std.specs.Char.{digit_char, digit_value}
use Rattle.std.specs.Str.Parse.{AllDigits}
use Rattle.json.specs.Print.{escape_byte, escape_letter, escape, quoted}
use Rattle.serde_json.specs.Data.{Num, Data, null, boolean, number, string, array, object, Items, no_items, item, Members, no_members, unsigned, negative}
use Rattle.serde_json.specs.Data.{float, member}
use Rattle.serde_json.specs.Written.{compact_text, items_text, members_text, comma_if, number_text}
use Rattle.ns_types.specs.declared.name.NameKind.TheVariants as NameKind
use Rattle.ns_types.specs.State.Name.{is_name, is_name_byte, is_printable}
use Rattle.ns_types.specs.State.Names.{Name}
use Rattle.ns_types.proofs.Named.{first_of_both, second_of_both}
use Rattle.ns_log_reader.proofs.Spelled.{is_after, is_spelled, items_spelled, members_spelled, is_spelled_number}

abbrev pub Lacks : Name → Type 0
Lacks = AllByRecursion (λ b. b ≡ 10 → ⊥)

pub lacks_both : (xs ys : Name) → Lacks xs → Lacks ys → Lacks (xs ++ ys)
lacks_both [] ys h k = k
lacks_both (x ∷ xs) ys h k = (h.0, lacks_both xs ys h.1 k)

pub lacks_by : (xs : Name) → list_all (λ b. not (b == 10)) xs ≡ true → Lacks xs
lacks_by [] h = tt
lacks_by (x ∷ xs) h = (
  λ e. true≢false (sym (first_of_both (not (x == 10)) (list_all (λ b. not (b == 10)) xs) h) ∙ ap (λ y. not (y == 10)) e),
  lacks_by xs (second_of_both (not (x == 10)) (list_all (λ b. not (b == 10)) xs) h),
)

-- ---- strings

other_digit : (x : ℕ) (b : Bool) → cond b (48 + x) (87 + x) ≡ 10 → ⊥
other_digit x true e = omega arith
other_digit x false e = omega arith

other_letter : (x : ℕ) (a b c d e f : Bool) → ((x == 34) || (x == 92)) ≡ a →
    cond a x (cond b 98 (cond c 102 (cond d 110 (cond e 114 (cond f 116 0))))) ≡ 10 → ⊥
other_letter x true b c d e f h k = false≢true (ap (λ y. (y == 34) || (y == 92)) (sym k) ∙ h)
other_letter x false true c d e f h k = omega arith
other_letter x false false true d e f h k = omega arith
other_letter x false false false true e f h k = omega arith
other_letter x false false false false true f h k = omega arith
other_letter x false false false false false true h k = omega arith
other_letter x false false false false false false h k = omega arith

plain_lacks : (x : ℕ) (b : Bool) → nat_lt x 32 ≡ b → Lacks (cond b (92 ∷ 117 ∷ 48 ∷ 48 ∷ digit_char (x / 16) ∷ digit_char (x % 16) ∷ []) (x ∷ []))
plain_lacks x true h =
    lacks_both (92 ∷ 117 ∷ 48 ∷ 48 ∷ []) (digit_char (x / 16) ∷ digit_char (x % 16) ∷ []) (lacks_by (92 ∷ 117 ∷ 48 ∷ 48 ∷ []) refl)
    (other_digit (x / 16) (nat_lt (x / 16) 10), (other_digit (x % 16) (nat_lt (x % 16) 10), tt))
plain_lacks x false h = let high : 32 ≤ x = ltb-false x 32 h in (λ e. omega arith, tt)

escaped_lacks : (letter : ℕ) (b : Bool) (rest : Name) → (letter ≡ 10 → ⊥) → Lacks rest → Lacks (cond b (92 ∷ letter ∷ []) rest)
escaped_lacks letter true rest h k = (λ e. omega arith, (h, tt))
escaped_lacks letter false rest h k = k

byte_lacks : (x : ℕ) → Lacks (escape_byte x)
unfolding escape_byte
byte_lacks x =
    escaped_lacks (escape_letter x) (nat_lt 0 (escape_letter x)) _
    (other_letter x ((x == 34) || (x == 92)) (x == 8) (x == 12) (x == 10) (x == 13) (x == 9) refl) (plain_lacks x (nat_lt x 32) refl)

escape_lacks : (s : Name) → Lacks (escape s)
escape_lacks [] = tt
escape_lacks (x ∷ s) = subst Lacks (sym (flat_map-cons escape_byte x s)) (lacks_both (escape_byte x) (escape s) (byte_lacks x) (escape_lacks s))

quoted_lacks : (s : Name) → Lacks (quoted s)
quoted_lacks s = (λ e. omega arith, lacks_both (escape s) (34 ∷ []) (escape_lacks s) (λ e. omega arith, tt))

-- ---- numbers

digits_lack : (ds : Name) → AllDigits 10 ds → Lacks ds
digits_lack [] h = tt
digits_lack (d ∷ ds) h = (
  λ e. let low : digit_value 10 < 10 = subst (λ y. digit_value y < 10) e h.0 in omega arith,
  digits_lack ds h.1,
)

pub decimal_lacks : (n : ℕ) → n < 2 ^ 64 → Lacks (decimal n)
decimal_lacks n h = digits_lack (decimal n) (decimal_is_IsNumeral n h).0.1

number_lacks : (x : Num) → is_spelled_number x ≡ true → Lacks (number_text x)
number_lacks (unsigned n) h = decimal_lacks n (ltb-true n (2 ^ 64) h)
number_lacks (negative (pos n)) h = absurd (false≢true h)
number_lacks (negative (negsuc n)) h =
    let fits : n + 1 < 2 ^ 63 = ltb-true (n + 1) (2 ^ 63) h in (λ e. omega arith, decimal_lacks (suc n) (omega arith))
number_lacks (float x) h = absurd (false≢true h)

-- ---- values

comma_lacks : (later : Bool) (xs : Name) → Lacks xs → Lacks (comma_if later ++ xs)
comma_lacks true xs h = (λ e. omega arith, h)
comma_lacks false xs h = h

mutual
  pub text_lacks : (n : ℕ) (d : Data) → is_spelled n d ≡ true → Lacks (compact_text d)
  text_lacks n null h = lacks_by (compact_text null) refl
  text_lacks n (boolean true) h = lacks_by (compact_text (boolean true)) refl
  text_lacks n (boolean false) h = lacks_by (compact_text (boolean false)) refl
  text_lacks n (number x) h = number_lacks x h
  text_lacks n (string s) h = quoted_lacks s
  text_lacks zero (array ds) h = absurd (false≢true h)
  text_lacks (suc n) (array ds) h = (λ e. omega arith, items_lack n false ds h)
  text_lacks zero (object ms) h = absurd (false≢true h)
  text_lacks (suc n) (object ms) h = (λ e. omega arith, members_lack n [] false ms h)

  items_lack : (n : ℕ) (later : Bool) (ds : Items) → items_spelled n ds ≡ true → Lacks (items_text later ds)
  items_lack n later no_items h = (λ e. omega arith, tt)
  items_lack n later (item d ds) h =
      comma_lacks later (compact_text d ++ items_text true ds)
      (lacks_both (compact_text d) (items_text true ds) (text_lacks n d (first_of_both _ (items_spelled n ds) h))
      (items_lack n true ds (second_of_both (is_spelled n d) _ h)))

  members_lack : (n : ℕ) (before : List Name) (later : Bool) (ms : Members) → members_spelled n before ms ≡ true → Lacks (members_text later ms)
  members_lack n before later no_members h = (λ e. omega arith, tt)
  members_lack n before later (member k d ms) h =
      let both = second_of_both (is_after k before) _ h in
      comma_lacks later (quoted k ++ 58 ∷ (compact_text d ++ members_text true ms))
      (lacks_both (quoted k) (58 ∷ (compact_text d ++ members_text true ms)) (quoted_lacks k) (
        λ e. omega arith,
        lacks_both (compact_text d) (members_text true ms) (text_lacks n d (first_of_both _ _ both))
            (members_lack n (before ++ k ∷ []) true ms (second_of_both (is_spelled n d) _ both)),
      ))

-- ---- lines

-- a text begins with one line alone
pub one_line : (xs ys rest more : Name) → Lacks xs → Lacks ys → xs ++ 10 ∷ rest ≡ ys ++ 10 ∷ more → (xs ≡ ys) × (rest ≡ more)
one_line [] [] rest more h k e = (refl, cc)
one_line [] (y ∷ ys) rest more h k e = let is : y ≡ 10 = cc in absurd (k.0 is)
one_line (x ∷ xs) [] rest more h k e = let is : x ≡ 10 = cc in absurd (h.0 is)
one_line (x ∷ xs) (y ∷ ys) rest more h k e =
    let first : x ≡ y = cc in
    let same : xs ++ 10 ∷ rest ≡ ys ++ 10 ∷ more = cc in
    let more = one_line xs ys rest more h.1 k.1 same in
    (ap₂ (λ a b. a ∷ b) first more.0, more.1)

printable_lacks : (b : ℕ) → is_printable b ≡ true → b ≡ 10 → ⊥
printable_lacks b h e = false≢true (ap is_printable (sym e) ∙ h)

printed_lack : (s : Name) → list_all is_printable s ≡ true → Lacks s
printed_lack [] h = tt
printed_lack (x ∷ s) h = (
  printable_lacks x (first_of_both (is_printable x) (list_all is_printable s) h),
  printed_lack s (second_of_both (is_printable x) (list_all is_printable s) h),
)

-- no line feed stands in a secret
pub secret_lacks : (s : Name) → is_name NameKind.Secret s ≡ true → Lacks s
secret_lacks s h = printed_lack s (second_of_both _ (list_all (is_name_byte NameKind.Secret) s) h)

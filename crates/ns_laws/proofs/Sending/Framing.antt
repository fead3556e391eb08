-- How long a body is, which token a request has, and whether its connection closes, by its headers.
use Rattle.std.specs.Prelude.{◌≡◌, ◌≢◌, ◌⊎◌, ℕ, ◌+◌, ◌≤◌, Bool, true, false, cond, ◌&&◌, ◌||◌, ◌==◌, List, [], ◌∷◌}
use Rattle.std.specs.Prelude.{◌++◌, All, Decides, IsTrue, Ok, Err, codes, length, map, nat_eq, nat_le, nat_lt}
use Rattle.std.specs.Char.{is_ascii_digit, to_ascii_lowercase}
use Rattle.std.specs.Cmp.Lexicographic.{pointwise}
use Rattle.std.specs.Int.{IsInRange}
use Rattle.std.specs.List.{AllZip, list_all, list_any, slice_split}
use Rattle.std.specs.Str.Parse.{digits_value}
use Rattle.std.proofs.Common.{inl, inr, refl, sym, ap, subst, ◌∙◌, arith, length-append}
use Rattle.std.proofs.lemmas.Bool.{and_from, and_parts, cases_lt, cond-false, cond-true, eq-eqb, eqb-true, false_from_ne_true, le-leb, leb-true}
use Rattle.std.proofs.lemmas.Bool.{lt-leb, lt-ltb, ltb-true, ne_eqb, or_left, or_right}
use Rattle.std.proofs.lemmas.Bool.Decides.{Decides-and, Decides-by_and}
use Rattle.std.proofs.lemmas.List.Elements.{All-head, All-tail, All-weaker}
use Rattle.std.proofs.lemmas.List.Folds.{list_any-append}
use Rattle.std.proofs.lemmas.List.Recursion.{is_count_by}
use Rattle.std.proofs.lemmas.List.Splits.{slice_split_at, slice_split_none}
use Rattle.std.proofs.lemmas.Str.Ascii.{lowercase_is}
use Rattle.ns_types.specs.declared.reply.HeadFault.TheVariants.{BadHead, NeedLength, TooLarge}
use Rattle.ns_types.specs.Wire.Http.{Header, asks_close, body_len, body_len_of, eq_ignore_case, first_value, headers_of, is_length, length_of}
use Rattle.ns_types.specs.Wire.Http.{lists_close, token_of, values_named}
use Rattle.ns_types.proofs.Lists.{not_both}
use Rattle.ns_types.proofs.Tests.{or_none}
use Rattle.ns_laws.specs.Wire as law
use Rattle.ns_laws.specs.Wire.{IsLengthBy, IsNumber, IsSameLetter, codings, count_named, lengths}

-- ---- upper and lower case

in_case : (c : ℕ) → (IsInRange 65 90 c × (to_ascii_lowercase c ≡ c + 32)) ⊎ (to_ascii_lowercase c ≡ c)
in_case c = elim (cases_lt c 65) [
  | inl below ↦ inr ((lowercase_is c).1 below)
  | inr from ↦ elim (cases_lt 90 c) [
    | inl above ↦ inr ((lowercase_is c).2 above)
    | inr to ↦ inl ((from, to), (lowercase_is c).0 (from, to))
  ]
]

same_letter : (a b : ℕ) → to_ascii_lowercase a ≡ to_ascii_lowercase b → IsSameLetter a b
same_letter a b e = by (in_case a) (in_case b)
  where
    by : (IsInRange 65 90 a × (to_ascii_lowercase a ≡ a + 32)) ⊎ (to_ascii_lowercase a ≡ a)
        → (IsInRange 65 90 b × (to_ascii_lowercase b ≡ b + 32)) ⊎ (to_ascii_lowercase b ≡ b) → IsSameLetter a b
    by (inl (upper, is)) (inl (other, is_b)) = let same : a + 32 ≡ b + 32 = sym is ∙ e ∙ is_b in inl (omega (arith, same))
    by (inl (upper, is)) (inr is_b) = inr (inl (upper, sym (sym is ∙ e ∙ is_b)))
    by (inr is) (inl (upper, is_b)) = inr (inr (upper, sym is ∙ e ∙ is_b))
    by (inr is) (inr is_b) = inl (sym is ∙ e ∙ is_b)

letter_same : (a b : ℕ) → IsSameLetter a b → to_ascii_lowercase a ≡ to_ascii_lowercase b
letter_same a b (inl e) = ap to_ascii_lowercase e
letter_same a b (inr (inl (upper, e))) =
    let from = upper.0 in
    (lowercase_is a).0 upper ∙ sym e ∙ sym ((lowercase_is b).2 (omega (arith, e, from)))
letter_same a b (inr (inr (upper, e))) =
    let from = upper.0 in
    (lowercase_is a).2 (omega (arith, e, from)) ∙ e ∙ sym ((lowercase_is b).0 upper)

abbrev lower : List ℕ → List ℕ
lower text = map to_ascii_lowercase text

zipped : (a b : List ℕ) → pointwise nat_eq (lower a) (lower b) ≡ true → AllZip IsSameLetter a b
zipped [] [] e = tt
zipped [] (y ∷ b) e = not_both e refl
zipped (x ∷ a) [] e = not_both e refl
zipped (x ∷ a) (y ∷ b) e =
    let parts = and_parts (to_ascii_lowercase x == to_ascii_lowercase y) (pointwise nat_eq (lower a) (lower b)) e in
    (same_letter x y (eqb-true (to_ascii_lowercase x) (to_ascii_lowercase y) parts.0), zipped a b parts.1)

from_zip : (a b : List ℕ) → AllZip IsSameLetter a b → pointwise nat_eq (lower a) (lower b) ≡ true
from_zip [] [] h = refl
from_zip [] (y ∷ b) h = absurd h
from_zip (x ∷ a) [] h = absurd h
from_zip (x ∷ a) (y ∷ b) h = and_from (to_ascii_lowercase x == to_ascii_lowercase y) (pointwise nat_eq (lower a) (lower b))
    (eq-eqb (to_ascii_lowercase x) (to_ascii_lowercase y) (letter_same x y h.0)) (from_zip a b h.1)

pub header_names : law.HeaderNames
unfolding eq_ignore_case
header_names a b = (zipped a b, from_zip a b)

-- ---- the values of a name

module _ (name : List ℕ) where
  -- one name, in upper or lower case, has the same values
  values_alike : (other : List ℕ) → ((n : List ℕ) → eq_ignore_case n name ≡ eq_ignore_case n other) → (headers : List Header)
      → values_named name headers ≡ values_named other headers
  values_alike other same [] = refl
  values_alike other same (h ∷ headers) =
      λ i. cond (same h.0 i) (h.1 ∷ values_alike other same headers i) (values_alike other same headers i)

  one_more : (b : Bool) (v : List ℕ) (values : List (List ℕ)) → length (cond b (v ∷ values) values) ≡ cond b (1 + length values) (length values)
  one_more true v values = omega arith
  one_more false v values = refl

  values_counted : (headers : List Header) → length (values_named name headers) ≡ count_named name headers
  values_counted headers = is_count_by (λ hs. length (values_named name hs)) (λ h. eq_ignore_case h.0 name) refl
      (λ h hs. one_more (eq_ignore_case h.0 name) h.1 (values_named name hs)) headers

  values_append : (xs ys : List Header) → values_named name (xs ++ ys) ≡ values_named name xs ++ values_named name ys
  values_append [] ys = refl
  values_append (x ∷ xs) ys = by (eq_ignore_case x.0 name) (values_append xs ys)
    where
      by : (b : Bool) → values_named name (xs ++ ys) ≡ values_named name xs ++ values_named name ys
          → cond b (x.1 ∷ values_named name (xs ++ ys)) (values_named name (xs ++ ys))
          ≡ cond b (x.1 ∷ values_named name xs) (values_named name xs) ++ values_named name ys
      by true later = ap (λ values. x.1 ∷ values) later
      by false later = later

  values_at : (before after : List Header) (n value : List ℕ) → eq_ignore_case n name ≡ true
      → values_named name (before ++ (n, value) ∷ after) ≡ values_named name before ++ value ∷ values_named name after
  values_at before after n value same = values_append before ((n, value) ∷ after)
      ∙ ap (λ values. values_named name before ++ values)
      (cond-true (eq_ignore_case n name) (value ∷ values_named name after) (values_named name after) same)

-- where there is one value, it is that one
alone : (before after : List (List ℕ)) (value : List ℕ) → length (before ++ value ∷ after) ≡ 1 → before ++ value ∷ after ≡ value ∷ []
alone [] [] value e = refl
alone [] (v ∷ after) value e = absurd (omega (arith, e))
alone (v ∷ before) after value e = let long = length-append before (value ∷ after) in absurd (omega (arith, e, long))

no_values : (values : List (List ℕ)) → length values ≡ 0 → values ≡ []
no_values [] e = refl
no_values (v ∷ values) e = absurd (omega (arith, e))

-- ---- how long a body is

same_length_name : (n : List ℕ) → eq_ignore_case n (codes "Content-Length") ≡ eq_ignore_case n (codes "content-length")
unfolding eq_ignore_case
same_length_name n = refl

same_coding_name : (n : List ℕ) → eq_ignore_case n (codes "Transfer-Encoding") ≡ eq_ignore_case n (codes "transfer-encoding")
unfolding eq_ignore_case
same_coding_name n = refl

abbrev length_values : List Header → List (List ℕ)
length_values headers = values_named (codes "content-length") headers

abbrev coding_values : List Header → List (List ℕ)
coding_values headers = values_named (codes "transfer-encoding") headers

lengths_are : (headers : List Header) → length (length_values headers) ≡ lengths headers
lengths_are headers = ap length (sym (values_alike (codes "Content-Length") (codes "content-length") same_length_name headers))
    ∙ values_counted (codes "Content-Length") headers

codings_are : (headers : List Header) → length (coding_values headers) ≡ codings headers
codings_are headers = ap length (sym (values_alike (codes "Transfer-Encoding") (codes "transfer-encoding") same_coding_name headers))
    ∙ values_counted (codes "Transfer-Encoding") headers

body_len_is : (headers : List Header) → body_len headers ≡ body_len_of (length_values headers) (coding_values headers)
unfolding body_len
body_len_is headers = refl

no_body : (ls cs : List (List ℕ)) → length ls ≡ 0 → length cs ≡ 0 → body_len_of ls cs ≡ Ok 0
no_body [] [] none no_coding = refl
no_body [] (c ∷ cs) none no_coding = absurd (omega (arith, no_coding))
no_body (l ∷ ls) cs none no_coding = absurd (omega (arith, none))

pub no_length_no_body : law.NoLengthNoBody
no_length_no_body headers none no_coding = body_len_is headers ∙ no_body (length_values headers) (coding_values headers)
    (lengths_are headers ∙ none) (codings_are headers ∙ no_coding)

two_are_bad : (ls cs : List (List ℕ)) → 2 ≤ length ls → body_len_of ls cs ≡ Err BadHead
two_are_bad [] cs two = absurd (omega (arith, two))
two_are_bad (v ∷ []) cs two = absurd (omega (arith, two))
two_are_bad (v ∷ w ∷ ls) [] two = refl
two_are_bad (v ∷ w ∷ ls) (c ∷ cs) two = refl

pub two_lengths_are_bad : law.TwoLengthsAreBad
two_lengths_are_bad headers two =
    let same = lengths_are headers in
    body_len_is headers ∙ two_are_bad (length_values headers) (coding_values headers) (omega (arith, same, two))

coded : (ls cs : List (List ℕ)) → 1 ≤ length cs
    → (length ls ≡ 0 → body_len_of ls cs ≡ Err NeedLength) × (1 ≤ length ls → body_len_of ls cs ≡ Err BadHead)
coded ls [] some = absurd (omega (arith, some))
coded [] (c ∷ cs) some = ((λ _. refl), (λ one. absurd (omega (arith, one))))
coded (l ∷ ls) (c ∷ cs) some = ((λ none. absurd (omega (arith, none))), (λ _. refl))

pub codings_are_refused : law.CodingsAreRefused
codings_are_refused headers some =
    let same = lengths_are headers in
    let same_codings = codings_are headers in
    let by = coded (length_values headers) (coding_values headers) (omega (arith, same_codings, some)) in (
      (λ none. body_len_is headers ∙ by.0 (same ∙ none)),
      (λ one. body_len_is headers ∙ by.1 (omega (arith, same, one))),
    )

-- ---- the number that a value states

digit : (c : ℕ) → Decides (is_ascii_digit c) (IsInRange 48 57 c)
digit c = Decides-and (nat_le 48 c) (nat_le c 57) (leb-true 48 c, le-leb 48 c) (leb-true c 57, le-leb c 57)

digits : (value : List ℕ) → Decides (list_all is_ascii_digit value) (All (IsInRange 48 57) value)
digits value = Decides-by_and is_ascii_digit (IsInRange 48 57) (list_all is_ascii_digit) digit refl (λ _ _. refl) value

a_number : (value : List ℕ) → is_length value ≡ true → IsNumber value
a_number value e =
    let parts = and_parts (nat_lt 0 (length value)) (nat_le (length value) 20 && list_all is_ascii_digit value) e in
    let rest = and_parts (nat_le (length value) 20) (list_all is_ascii_digit value) parts.1 in
    let some = ltb-true 0 (length value) parts.0 in
    record { some = omega (arith, some); few = leb-true (length value) 20 rest.0; digits = (digits value).0 rest.1 }

number : (value : List ℕ) → IsNumber value → is_length value ≡ true
number value is =
    let some = is.some in
    and_from (nat_lt 0 (length value)) (nat_le (length value) 20 && list_all is_ascii_digit value) (lt-ltb 0 (length value) (omega (arith, some)))
    (and_from (nat_le (length value) 20) (list_all is_ascii_digit value) (le-leb (length value) 20 is.few) ((digits value).1 is.digits))

length_by : (value : List ℕ) → IsLengthBy value (length_of value)
unfolding length_of
length_by value = record {
  fits = λ is small. cond-true (is_length value) _ _ (number value is)
      ∙ cond-true (nat_le (digits_value 10 value) 1048576) _ _ (le-leb (digits_value 10 value) 1048576 small);
  large = λ is over. cond-true (is_length value) _ _ (number value is)
      ∙ cond-false (nat_le (digits_value 10 value) 1048576) _ _ (lt-leb (digits_value 10 value) 1048576 over);
  bad = λ none. cond-false (is_length value) _ _ (false_from_ne_true (is_length value) (λ e. none (a_number value e)));
}

one_length : (ls cs : List (List ℕ)) (value : List ℕ) → ls ≡ value ∷ [] → cs ≡ [] → IsLengthBy value (body_len_of ls cs)
one_length ls cs value is none = subst (λ values. IsLengthBy value (body_len_of values cs)) (sym is)
    (subst (λ values. IsLengthBy value (body_len_of (value ∷ []) values)) (sym none) (length_by value))

pub one_length_counts : law.OneLengthCounts
one_length_counts before after name value same one no_coding =
    let headers = before ++ (name, value) ∷ after in
    let values = values_at (codes "content-length") before after name value (sym (same_length_name name) ∙ same) in
    let counted : length (length_values before ++ value ∷ length_values after) ≡ 1 = sym (ap length values) ∙ lengths_are headers ∙ one in
    subst (IsLengthBy value) (sym (body_len_is headers)) (one_length (length_values headers) (coding_values headers) value
    (values ∙ alone (length_values before) (length_values after) value counted)
    (no_values (coding_values headers) (codings_are headers ∙ no_coding)))

by_tests : (value : List ℕ) (n : ℕ) → length_of value ≡ Ok n → n ≤ 1048576
unfolding length_of
by_tests value n e = by (is_length value) (nat_le (digits_value 10 value) 1048576) refl e
  where
    by : (b c : Bool) → nat_le (digits_value 10 value) 1048576 ≡ c
        → cond b (cond c (Ok (digits_value 10 value)) (Err TooLarge)) (Err BadHead) ≡ Ok n → n ≤ 1048576
    by true true is e = let same : digits_value 10 value ≡ n = cc in subst (λ m. m ≤ 1048576) same (leb-true (digits_value 10 value) 1048576 is)
    by true false is e = cc
    by false c is e = cc

small : (ls cs : List (List ℕ)) (n : ℕ) → body_len_of ls cs ≡ Ok n → n ≤ 1048576
small [] [] n e = let same : 0 ≡ n = cc in omega (arith, same)
small [] (c ∷ cs) n e = cc
small (v ∷ []) [] n e = by_tests v n e
small (v ∷ w ∷ ls) [] n e = cc
small (v ∷ ls) (c ∷ cs) n e = cc

pub bodies_are_small : law.BodiesAreSmall
bodies_are_small headers n e = small (length_values headers) (coding_values headers) n (sym (body_len_is headers) ∙ e)

long_by : (head body : List ℕ) → length head ≤ 16384 → length (head ++ body) ≤ 16384 + length body
long_by head body few = let long = length-append head body in omega (arith, long, few)

pub messages_are_small : law.MessagesAreSmall
messages_are_small m is =
    (long_by _ m.body is.head.len, is.head.headers, bodies_are_small (headers_of m) (length m.body) is.framed)

-- ---- the token

same_token_name : (n : List ℕ) → eq_ignore_case n (codes "X-Nomad-Token") ≡ eq_ignore_case n (codes "x-nomad-token")
unfolding eq_ignore_case
same_token_name n = refl

token_is : (headers : List Header) → token_of headers ≡ first_value (values_named (codes "x-nomad-token") headers)
unfolding token_of
token_is headers = refl

pub first_token_counts : law.FirstTokenCounts
first_token_counts before after name value none =
    let counted : length (values_named (codes "x-nomad-token") before) ≡ 0 =
    ap length (sym (values_alike (codes "X-Nomad-Token") (codes "x-nomad-token") same_token_name before))
    ∙ values_counted (codes "X-Nomad-Token") before ∙ none in
    let empty = no_values (values_named (codes "x-nomad-token") before) counted in (
      (λ same. token_is (before ++ (name, value) ∷ after) ∙ ap first_value
          (values_at (codes "x-nomad-token") before after name value (sym (same_token_name name) ∙ same)
          ∙ ap (λ values. values ++ value ∷ values_named (codes "x-nomad-token") after) empty)),
      token_is before ∙ ap first_value empty,
    )

-- ---- when a connection closes

same_connection_name : (n : List ℕ) → eq_ignore_case n (codes "Connection") ≡ eq_ignore_case n (codes "connection")
unfolding eq_ignore_case
same_connection_name n = refl

abbrev close_listed : Header → Bool
close_listed h = eq_ignore_case h.0 (codes "connection") && lists_close h.1

old_closes : (headers : List Header) → asks_close 0 headers ≡ true
unfolding asks_close
old_closes headers = refl

new_closes : (headers : List Header) → asks_close 1 headers ≡ list_any close_listed headers
unfolding asks_close
new_closes headers = refl

abbrev leaves_open : Header → Type 0
leaves_open h = IsTrue (eq_ignore_case h.0 (codes "Connection")) → lists_close h.1 ≡ false

none_listed : (headers : List Header) → All leaves_open headers → list_any close_listed headers ≡ false
none_listed [] none = refl
none_listed (h ∷ headers) none = by (eq_ignore_case h.0 (codes "connection"))
    (λ same. All-head leaves_open h headers none (same_connection_name h.0 ∙ same)) (none_listed headers (All-tail leaves_open h headers none))
  where
    by : (b : Bool) → (IsTrue b → lists_close h.1 ≡ false) → list_any close_listed headers ≡ false
        → ((b && lists_close h.1) || list_any close_listed headers) ≡ false
    by true one rest = ap (λ c. c || list_any close_listed headers) (one refl) ∙ rest
    by false one rest = rest

pub closes_by_head : law.ClosesByHead
closes_by_head headers before after name value = (
  old_closes headers,
  (λ none. new_closes headers ∙ none_listed headers none),
  (λ same listed. new_closes (before ++ (name, value) ∷ after) ∙ list_any-append close_listed before ((name, value) ∷ after)
      ∙ or_right (list_any close_listed before) (list_any close_listed ((name, value) ∷ after))
      (or_left (close_listed (name, value)) (list_any close_listed after)
      (and_from (eq_ignore_case name (codes "connection")) (lists_close value) (sym (same_connection_name name) ∙ same) listed))),
)

-- some part of a text passes, of those between commas, if the first one does or one of the others
part_passes : (test : List ℕ → Bool) (first rest : List ℕ) → All (λ c. (c == 44) ≡ false) first
    → list_any test (slice_split (λ c. c == 44) (first ++ 44 ∷ rest))
    ≡ (list_any test (slice_split (λ c. c == 44) first) || list_any test (slice_split (λ c. c == 44) rest))
part_passes test first rest none = ap (list_any test) (slice_split_at (λ c. c == 44) first 44 rest none refl)
    ∙ ap (λ b. b || list_any test (slice_split (λ c. c == 44) rest))
    (sym (ap (list_any test) (slice_split_none (λ c. c == 44) first none) ∙ or_none (test first)))

pub commas_separate : law.CommasSeparate
unfolding lists_close
commas_separate first rest plain =
    part_passes _ first rest (All-weaker (λ c. c ≢ 44) (λ c. (c == 44) ≡ false) (λ c other. ne_eqb c 44 other) first plain)

pub last_requests : law.LastRequests
last_requests = (
  (λ fault. refl),
  (λ m old. subst (λ minor. asks_close minor (headers_of m) ≡ true) (sym old) (old_closes (headers_of m))),
)

-- What replies take, and their texts.
use Rattle.std.proofs.Common.{◌≡◌, ◌≢◌, ℕ, zero, suc, if◌then◌else◌, ◌+◌, ◌*◌, ◌/◌, ◌%◌, ◌^◌, nat_lt, ◌<◌, ◌≤◌, Bool, true, false, cond, List, [], ◌∷◌, ◌++◌}
use Rattle.std.proofs.Common.{length, Result, Ok, Err, refl, ap, ◌∙◌, arith, codes, decimal, length-append}
use Rattle.std.specs.Prelude.{is_ok}
use Rattle.std.specs.Char.{digit_char}
use Rattle.std.specs.Str.{IsUtf8}
use Rattle.json.specs.Written.{Written}
use Rattle.ns_json.specs.Part.{Adds, Follows, tokens_of}
use Rattle.std.proofs.lemmas.Fmt.{length-decimal-le}
use Rattle.std.proofs.lemmas.Bool.Decides.{nat_tests}
use Rattle.std.proofs.lemmas.List.Concat.{flat_map-append}
use Rattle.uuid.specs.Text.{by_index, hex_digit, lower, is_hyphen_place, digit_place}
use Rattle.uuid.proofs.TextLemmas.{by_index_length, nibble_small}
use Rattle.json.specs.Token.{Token, begin_object, end_object, key, string, number}
use Rattle.json.specs.Print.{escape_letter, escape_byte, escape, quoted, print}
use Rattle.json.specs.Tree.{room}
use Rattle.serde_json.specs.Data.{Data}
use Rattle.serde_json.specs.Written.{compact_text, comma_if}
use Rattle.serde_json.proofs.Texts.{print-outline}
use Rattle.ns_types.specs.declared.id.IdKind.{IdKind}
use Rattle.ns_types.specs.declared.id.IdKind.TheVariants.{Evaluation}
use Rattle.std.specs.Int.{w128, to_be_bytes}
use Rattle.ns_types.specs.State.Id.{id_text, id_number}
use Rattle.ns_json.specs.Rendered.{longest_registered}
use Rattle.ns_json.specs.Rendering.{registered_json}

escape_at : (a b : Bool) (x y z : List ℕ) → length x ≤ 6 → length y ≤ 6 → length z ≤ 6 → length (cond a x (cond b y z)) ≤ 6
escape_at true b x y z p q r = p
escape_at false true x y z p q r = q
escape_at false false x y z p q r = r

escape_byte-short : (x : ℕ) → length (escape_byte x) ≤ 6
unfolding escape_byte
escape_byte-short x = escape_at (nat_lt 0 (escape_letter x)) (nat_lt x 32) (92 ∷ escape_letter x ∷ [])
    (92 ∷ 117 ∷ 48 ∷ 48 ∷ digit_char (x / 16) ∷ digit_char (x % 16) ∷ []) (x ∷ []) (omega arith) (omega arith) (omega arith)

-- each byte of a text takes six at most
pub length-escape : (s : List ℕ) → length (escape s) ≤ 6 * length s
length-escape [] = omega arith
length-escape (x ∷ xs) = omega (arith, length-append (escape_byte x) (escape xs), escape_byte-short x, length-escape xs)

pub length-quoted : (s : List ℕ) → length (quoted s) ≤ 6 * length s + 2
length-quoted s = omega (arith, length-escape s, length-append (escape s) (34 ∷ []))

pub length-id : (kind : IdKind) (n : ℕ) → length (id_text kind n) ≡ 36
length-id kind n = by_index_length 36 _

pub length-number : (n : ℕ) → n < 2 ^ 64 → length (decimal n) ≤ 20
length-number n h = length-decimal-le 20 n (omega arith) (omega arith) h

pub registered_tokens : (evaluation index job_index : ℕ) (id : List ℕ) → id ≡ id_text Evaluation evaluation
    → begin_object ∷ key (codes "EvalCreateIndex") ∷ number (decimal index) ∷ key (codes "EvalID") ∷ string id ∷ key (codes "JobModifyIndex") ∷ number
    (decimal job_index) ∷ end_object ∷ []
    ≡ tokens_of (registered_json evaluation index job_index)
unfolding registered_json
registered_tokens evaluation index job_index id e = rw (← e) refl

room_of : (a b : ℕ) (id : List ℕ) → a < 2 ^ 64 → b < 2 ^ 64 → length id ≡ 36
    → room (begin_object ∷ key (codes "EvalCreateIndex") ∷ number (decimal a) ∷ key (codes "EvalID") ∷ string id ∷ key (codes "JobModifyIndex") ∷ number
    (decimal b) ∷ end_object ∷ []) ≤ 320
unfolding escape_byte
room_of a b id p q r = omega (arith, length-number a p, length-number b q, length-quoted id, r)

pub registered_room : (evaluation index job_index : ℕ) → index < 2 ^ 64 → job_index < 2 ^ 64 →
    room (tokens_of (registered_json evaluation index job_index)) ≤ 320
registered_room evaluation index job_index p q =
    rw (← registered_tokens evaluation index job_index (id_text Evaluation evaluation) refl)
    (room_of index job_index (id_text Evaluation evaluation) p q (length-id Evaluation evaluation))

plain_one : (x : ℕ) → 44 < x → x < 103 → x ≢ 92 → length (escape_byte x) ≡ 1
unfolding escape_byte
plain_one x low high other = grind (arith, nat_tests)

hex_one : (d : ℕ) → d < 16 → length (escape_byte (hex_digit lower d)) ≡ 1
hex_one d h = plain_one (hex_digit lower d) (grind (arith, nat_tests)) (grind (arith, nat_tests)) (grind (arith, nat_tests))

place_one : (b : Bool) (d : ℕ) → d < 16 → length (escape_byte (if b then 45 else hex_digit lower d)) ≡ 1
unfolding escape_byte
place_one true d h = refl
place_one false d h = hex_one d h

escaped_places : (n : ℕ) (f : ℕ → ℕ) → ((k : ℕ) → length (escape_byte (f k)) ≡ 1) → length (escape (by_index n f)) ≡ n
unfolding by_index
escaped_places zero f one = refl
escaped_places (suc n) f one =
    let parts : escape (by_index n f ++ f n ∷ []) ≡ escape (by_index n f) ++ escape (f n ∷ []) = flat_map-append escape_byte (by_index n f) (f n ∷ []) in
    rw parts (omega (arith, length-append (escape (by_index n f)) (escape (f n ∷ [])), length-append (escape_byte (f n)) [], escaped_places n f one, one n))

-- no byte of an id is escaped
pub length-escaped_id : (kind : IdKind) (n : ℕ) → length (escape (id_text kind n)) ≡ 36
length-escaped_id kind n = escaped_places 36 _ (λ k. place_one (is_hyphen_place k) _ (nibble_small (to_be_bytes w128 (id_number kind n)) (digit_place k)))

-- the longest body that answers a registration
pub registered_short : (evaluation index job_index : ℕ) → index < 2 ^ 64 → job_index < 2 ^ 64 →
    length (compact_text (registered_json evaluation index job_index)) ≤ longest_registered
unfolding registered_json escape_byte
registered_short evaluation index job_index p q =
    let id : List ℕ = id_text Evaluation evaluation in
    let last : List ℕ = comma_if true ++ (quoted (codes "JobModifyIndex") ++ 58 ∷ (decimal job_index ++ 125 ∷ [])) in
    let middle : List ℕ = comma_if true ++ (quoted (codes "EvalID") ++ 58 ∷ (quoted id ++ last)) in
    omega (
      arith,
      length-append (decimal index) middle,
      length-append (escape id ++ 34 ∷ []) last,
      length-append (escape id) (34 ∷ []),
      length-append (decimal job_index) (125 ∷ []),
      length-number index p,
      length-number job_index q,
      length-escaped_id Evaluation evaluation,
    )

-- what is written in room for it is written
pub has_room : {E : Type 0} (r : Result (Unit {0}) E) (old new : Written) (ts : List Token) → Adds r old new ts → room ts ≤ old.spare → is_ok r ≡ true
has_room (Ok u) old new ts h fits = refl
has_room (Err e) old new ts h fits = absurd (omega (arith, h.room))

-- the text of what was written first
pub text_of : {E : Type 0} (r : Result (Unit {0}) E) (old new : Written) (d : Data) (items : List ℕ) → Adds r old new (tokens_of d) → is_ok r ≡ true →
    old.tokens ≡ [] → old.before ≡ []
    → items ≡ new.before ++ print new.tokens → items ≡ compact_text d
text_of (Ok u) old new d items h ok none empty is =
    let all : new.tokens ≡ tokens_of d = h.ok ∙ ap (λ t. t ++ tokens_of d) none in
    let before : new.before ≡ [] = h.before ∙ empty in
    is ∙ rw (before, all) (print-outline d)
text_of (Err e) old new d items h ok none empty is = absurd cc

pub text_that_follows : (old new : Written) (d : Data) (items : List ℕ) → Follows old new (tokens_of d) → old.tokens ≡ [] → old.before ≡ [] → items ≡ new.before
    ++ print new.tokens → items ≡ compact_text d
text_that_follows old new d items h none empty is =
    let all : new.tokens ≡ tokens_of d = h.tokens ∙ ap (λ t. t ++ tokens_of d) none in
    let before : new.before ≡ [] = h.before ∙ empty in
    is ∙ rw (before, all) (print-outline d)

-- what was written first is UTF-8, as a writer's text is
utf8_first : (before items text : List ℕ) → before ≡ [] → items ≡ before ++ text → IsUtf8 text → IsUtf8 items
utf8_first before items text empty is utf8 = rw (is, empty) utf8

pub utf8_that_follows : (old new : Written) (ts : List Token) (items : List ℕ) → Follows old new ts → old.before ≡ [] → items ≡ new.before ++ print new.tokens
    → IsUtf8 (print new.tokens) → IsUtf8 items
utf8_that_follows old new ts items h empty is utf8 = utf8_first new.before items (print new.tokens) (h.before ∙ empty) is utf8

pub utf8_of : {E : Type 0} (r : Result (Unit {0}) E) (old new : Written) (ts : List Token) (items : List ℕ) → Adds r old new ts → old.before ≡ [] →
    items ≡ new.before ++ print new.tokens
    → IsUtf8 (print new.tokens) → IsUtf8 items
utf8_of r old new ts items h empty is utf8 = utf8_first new.before items (print new.tokens) (h.before ∙ empty) is utf8

-- What is drawn can be a secret.
use Rattle.std.proofs.Common.{Result, Ok, Err, IfOk, ◌≡◌, ℕ, zero, suc, ◌+◌, ◌-◌, ◌/◌, ◌%◌, ◌<◌, ◌==◌, List, [], ◌∷◌, length}
use Rattle.std.proofs.Common.{Bool, true, false, nat_lt, if◌then◌else◌, refl, ◌∙◌, arith}
use Rattle.std.specs.Bool.{IsTrue}
use Rattle.std.specs.List.{list_all}
use Rattle.std.specs.Prelude.{slice_index}
use Rattle.std.proofs.lemmas.Bool.Decides.{nat_tests}
use Rattle.std.proofs.lemmas.List.Folds.{list_all-append}
use Rattle.std.proofs.lemmas.Nat.{mod_below}
use Rattle.uuid.specs.Text.{by_index, digit_place, hex_digit, hyphen, hyphenated_text, is_hyphen_place, lower, nibble}
use Rattle.uuid.proofs.TextLemmas.{by_index_length}
use Rattle.ns_types.specs.declared.name.NameKind.TheVariants as NameKind
use Rattle.ns_types.specs.State.Name.{is_name, is_printable}
use Rattle.ns_types.specs.State.Names.{Name}

all_by_index : (n : ℕ) (p : ℕ → Bool) (f : ℕ → ℕ) → ((k : ℕ) → p (f k) ≡ true) → list_all p (by_index n f) ≡ true
unfolding by_index
all_by_index zero p f h = refl
all_by_index (suc n) p f h = list_all-append p (by_index n f) (f n ∷ []) ∙ rw (all_by_index n p f h, h n) refl

printable_digit : (d : ℕ) → d < 16 → is_printable (hex_digit lower d) ≡ true
printable_digit d h = by (nat_lt d 10) refl
  where
    by : (b : Bool) → nat_lt d 10 ≡ b → is_printable (if b then 48 + d else lower + d - 10) ≡ true
    by true e = grind (arith, nat_tests, e)
    by false e = grind (arith, nat_tests, e)

half_below : (xs : List ℕ) (k : ℕ) → nibble xs k < 16
half_below xs k = by (k % 2 == 0)
  where
    by : (b : Bool) → (if b then slice_index xs (k / 2) / 16 % 16 else slice_index xs (k / 2) % 16) < 16
    by true = mod_below _ 16 (omega arith)
    by false = mod_below _ 16 (omega arith)

-- the text of a UUID follows the rule of a secret
pub is_secret : (bytes : List ℕ) → IsTrue (is_name NameKind.Secret (hyphenated_text lower bytes))
is_secret bytes =
    let long : length (hyphenated_text lower bytes) ≡ 36 = by_index_length 36 _ in
    let bytes_print : list_all is_printable (hyphenated_text lower bytes) ≡ true = all_by_index 36 is_printable _ (λ k. at k (is_hyphen_place k)) in
    rw (long, bytes_print) refl
  where
    at : (k : ℕ) (b : Bool) → is_printable (if b then hyphen else hex_digit lower (nibble bytes (digit_place k))) ≡ true
    at k true = refl
    at k false = printable_digit (nibble bytes (digit_place k)) (half_below bytes (digit_place k))

pub secret_from : {E : Type 0} (r : Result Name E) (text bytes : List ℕ) → IfOk r (λ t. t ≡ text) → text ≡ hyphenated_text lower bytes →
    IfOk r (λ t. IsTrue (is_name NameKind.Secret t))
secret_from (Ok t) text bytes made is = rw (made, is) (is_secret bytes)
secret_from (Err e) text bytes made is = tt

-- The text of an id stands for its number.
use Rattle.std.proofs.Common.{◌≡◌, ℕ, zero, suc, ◌+◌, ◌*◌, ◌/◌, ◌%◌, ◌^◌, ◌<◌, List, length, All, Option, Some, None, option_map, refl, sym, ap, ◌∙◌, arith}
use Rattle.std.proofs.Common.{inl, ◌≢◌, Ok, Err, true≢false}
use Rattle.std.specs.Int.{w128, byte_at, bytes_high_first, to_be_bytes, from_be_bytes}
use Rattle.std.specs.List.{AllByRecursion}
use Rattle.std.specs.Bool.{then_some}
use Rattle.std.specs.Prelude.{IsOk, IfNone, ◌↔◌, Result, Bool, true, false, nat_eq}
use Rattle.std.proofs.lemmas.Bool.{eq-eqb}
use Rattle.std.proofs.lemmas.List.Elements.{All-from_recursion}
use Rattle.std.proofs.lemmas.Nat.{mod_below}
use Rattle.uuid.specs.Text.{hyphenated_text, lower, parsed}
use Rattle.uuid.proofs.RoundTrips.{parses_hyphenated}
use Rattle.uuid.proofs.OrderLemmas.{from_be_bytes-to_be_bytes_16}
use Rattle.ns_types.specs.declared.id.IdKind.{IdKind}
use Rattle.ns_types.specs.declared.id.IdKind.TheVariants.{Evaluation, Allocation}
use Rattle.ns_types.specs.State.Id.{kind_number, id_number, id_text, uuid_number}

pub id_number-below : (kind : IdKind) (n : ℕ) → n < 2 ^ 64 → id_number kind n < 2 ^ 128
id_number-below Evaluation n h = omega arith
id_number-below Allocation n h = omega arith

byte-below : (k n : ℕ) → byte_at k n < 256
byte-below zero n = omega arith
byte-below (suc k) n = mod_below _ 256 (omega arith)

each-below : (k n : ℕ) → AllByRecursion (λ b. b < 256) (bytes_high_first k n)
each-below zero n = tt
each-below (suc k) n = (byte-below k n, each-below k n)

bytes-below : (k n : ℕ) → All (λ b. b < 256) (bytes_high_first k n)
bytes-below k n = All-from_recursion (λ b. b < 256) _ (each-below k n)

length-bytes : (k n : ℕ) → length (bytes_high_first k n) ≡ k
length-bytes zero n = refl
length-bytes (suc k) n = ap suc (length-bytes k n)

pub id_text-number : (kind : IdKind) (n : ℕ) → n < 2 ^ 64 → uuid_number (id_text kind n) ≡ Some (id_number kind n)
id_text-number kind n h =
    let bytes = to_be_bytes w128 (id_number kind n) in
    let read : Some bytes ≡ parsed (hyphenated_text lower bytes) =
    parses_hyphenated lower bytes (inl refl) (length-bytes 16 (id_number kind n)) (bytes-below 16 (id_number kind n)) in
    rw (← read) (ap Some (from_be_bytes-to_be_bytes_16 (id_number kind n) (id_number-below kind n h)))

pub kind-back : (kind : IdKind) (n : ℕ) → n < 2 ^ 64 → (id_number kind n / 2 ^ 64 ≡ kind_number kind) × (id_number kind n % 2 ^ 64 ≡ n)
kind-back Evaluation n h = (omega arith, omega arith)
kind-back Allocation n h = (omega arith, omega arith)

no_parse : {E : Type 0} (r : Result (List ℕ) E) (t : List ℕ) (o : Option (List ℕ)) → parsed t ≡ o → (IsOk r ↔ ((u : List ℕ) × (parsed t ≡ Some u))) →
    ((u : List ℕ) → r ≢ Ok u) → uuid_number t ≡ None
no_parse r t None e ok bad = ap (option_map (from_be_bytes w128)) e
no_parse (Ok x) t (Some u) e ok bad = absurd (bad x refl)
no_parse (Err x) t (Some u) e ok bad = absurd (true≢false (sym (ok.1 (u, e))))

-- a text that `uuid` refuses has no number
pub refused : {E : Type 0} (r : Result (List ℕ) E) (t : List ℕ) → (IsOk r ↔ ((u : List ℕ) × (parsed t ≡ Some u))) → ((u : List ℕ) → r ≢ Ok u) →
    uuid_number t ≡ None
refused r t ok bad = no_parse r t (parsed t) refl ok bad

-- the answer where the text has a number
pub none_at : (b : Bool) (kind : IdKind) (t : List ℕ) (v low : ℕ) → uuid_number t ≡ Some v → b ≡ nat_eq (v / 2 ^ 64) (kind_number kind)
    → IfNone (then_some b low) ((n : ℕ) → n < 2 ^ 64 → uuid_number t ≡ Some (id_number kind n) → ⊥)
none_at true kind t v low e is = tt
none_at false kind t v low e is = λ n h other.
    let same : v ≡ id_number kind n = cc in
    let high : v / 2 ^ 64 ≡ kind_number kind = rw same (kind-back kind n h).0 in
    true≢false (sym (eq-eqb _ _ high) ∙ sym is)

pub written_at : (b : Bool) (kind : IdKind) (t : List ℕ) (v low : ℕ) → uuid_number t ≡ Some v → b ≡ nat_eq (v / 2 ^ 64) (kind_number kind) → low ≡ v % 2 ^ 64
    → (n : ℕ) → n < 2 ^ 64 → t ≡ id_text kind n → then_some b low ≡ Some n
written_at b kind t v low e is low_is n h same_text =
    let number : uuid_number t ≡ Some (id_number kind n) = rw same_text (id_text-number kind n h) in
    let same : v ≡ id_number kind n = cc in
    let holds : b ≡ true = is ∙ eq-eqb _ _ (rw same (kind-back kind n h).0) in
    let back : low ≡ n = low_is ∙ rw same (kind-back kind n h).1 in
    rw (holds, back) refl

some≢none : {x : ℕ} → Some x ≡ None → ⊥
some≢none e = cc

-- a text without a number is no id
pub no_id : (t : List ℕ) (kind : IdKind) (n : ℕ) → uuid_number t ≡ None → uuid_number t ≡ Some (id_number kind n) → ⊥
no_id t kind n none some = some≢none (sym some ∙ none)

pub text_at : (kind : IdKind) (n k : ℕ) (a b text : List ℕ) → k ≡ kind_number kind → a ≡ to_be_bytes w128 (k * 2 ^ 64 + n) → b ≡ a →
    text ≡ hyphenated_text lower b → text ≡ id_text kind n
text_at kind n k a b text is_k is_a is_b is_text = rw (is_text, is_b, is_a, is_k) refl

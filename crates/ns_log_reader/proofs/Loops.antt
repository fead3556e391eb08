-- Entries one after the other, up to the end of the text or the first bad line.
use Rattle.std.proofs.Common.{◌≡◌, ◌≢◌, ℕ, ◌^◌, ◌<◌, ◌==◌, List, [], ◌∷◌, length, true, false, Result, Err, refl, sym, subst, ◌∙◌, arith}
use Rattle.std.proofs.lemmas.Bool.{eqb-true, eqb-false}
use Rattle.ns_types.specs.State.Names.{Name}
use Rattle.ns_json.specs.Replies.{Entry}
use Rattle.ns_log_reader.specs.declared.fault.LogFault.{LogFault}
use Rattle.ns_log_reader.specs.declared.fault.LogFault.TheVariants.{Line}
use Rattle.ns_log_reader.specs.Lines.{HasBadLine}
use Rattle.ns_log_reader.specs.Reading.{HasEntries, HasLinesThen, HasSoFar, StopsAfter}

pub none_left : (rest : Name) → (length rest == 0) ≡ true → rest ≡ []
none_left [] h = refl
none_left (x ∷ xs) h = let none : length (x ∷ xs) ≡ 0 = eqb-true (length (x ∷ xs)) 0 h in absurd (omega arith)

pub some_left : (rest : Name) → (length rest == 0) ≡ false → rest ≢ []
some_left rest h is = let none : length rest ≡ 0 = subst (λ r. length r ≡ 0) (sym is) refl in eqb-false (length rest) 0 h none

one_line : {A : Type 0} (n m : ℕ) → ◌≡◌ {A = Result A LogFault} (Err (Line n)) (Err (Line m)) → n ≡ m
one_line n m h = cc

pub stops : {A : Type 0} (text secret rest : Name) (es : List Entry) (number n : ℕ) → HasSoFar text secret rest es number →
    length es < 2 ^ 64 → (length rest == 0) ≡ false → HasBadLine secret (length es) rest →
    ◌≡◌ {A = Result A LogFault} (Err (Line number)) (Err (Line n)) → StopsAfter text secret n
stops {A = A} text secret rest es number n h few some bad same = record {
  lines = h.lines;
  rest = rest;
  before = h.before;
  few = subst (λ (xs : List Entry). length xs < 2 ^ 64) h.are_entries few;
  is_number = sym (one_line {A = A} number n same) ∙ h.is_number;
  is_more = some_left rest some;
  is_bad = subst (λ (xs : List Entry). HasBadLine secret (length xs) rest) h.are_entries bad;
}

pub ends : (text secret rest : Name) (es : List Entry) (number : ℕ) → HasSoFar text secret rest es number → length es < 2 ^ 64 →
    (length rest == 0) ≡ true → HasEntries text secret es
ends text secret rest es number h few none = record {
  lines = h.lines;
  has_lines = subst (λ r. HasLinesThen text secret r h.lines) (none_left rest none) h.before;
  are_entries = h.are_entries;
  few = few;
}

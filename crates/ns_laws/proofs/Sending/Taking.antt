-- The requests of a connection, one after the other.
use Rattle.std.specs.Prelude.{◌≡◌, ℕ, Bool, true, false, List, [], ◌∷◌, ◌++◌, MatchBool, length}
use Rattle.std.proofs.Common.{refl, sym, ap, subst, ◌∙◌, append_assoc, append-nil, arith}
use Rattle.ns_types.specs.State.Lists.{is_empty}
use Rattle.ns_types.specs.Wire.Http.{Received, Refused, RefusesHead, Takes, Whole, closes, is_last, print_message}
use Rattle.ns_types.proofs.Lists.{not_both}
use Rattle.ns_laws.specs.Requests as law

-- what follows a whole request
abbrev Follows : List ℕ → List Received → Bool → List ℕ → Bool → Type 0
Follows after received closed rest last = MatchBool last ((received ≡ []) × (closed ≡ true) × (after ≡ rest)) (Takes after received closed rest)

has_one : (before later : List Received) (x : Received) → is_empty (before ++ x ∷ later) ≡ false
has_one [] later x = refl
has_one (y ∷ before) later x = refl

-- what is read from where that request begins
reaches : (bytes rest : List ℕ) (before later : List Received) (x : Received) (closed : Bool) → Takes bytes (before ++ x ∷ later) closed rest →
    (from : List ℕ) × Takes from (x ∷ later) closed rest
reaches bytes rest [] later x closed taken = (bytes, taken)
reaches bytes rest (Refused fault ∷ before) later x closed taken = not_both (ap is_empty taken.1) (has_one before later x)
reaches bytes rest (Whole m ∷ before) later x closed taken = by (closes m) taken.3 (reaches taken.1 rest before later x closed)
  where
    by : (last : Bool) → Follows taken.1 (before ++ x ∷ later) closed rest last →
        (Takes taken.1 (before ++ x ∷ later) closed rest → (from : List ℕ) × Takes from (x ∷ later) closed rest) →
        (from : List ℕ) × Takes from (x ∷ later) closed rest
    by true follows go = not_both (ap is_empty follows.0) (has_one before later x)
    by false follows go = go follows

pub bytes_are_the_requests : law.BytesAreTheRequests
bytes_are_the_requests bytes rest [] closed taken = taken.1
bytes_are_the_requests bytes rest (Refused fault ∷ received) closed taken = taken.3 ∙ ap (λ r. law.printed r ++ rest) (sym taken.1)
bytes_are_the_requests bytes rest (Whole m ∷ received) closed taken = taken.2
    ∙ ap (λ r. print_message m ++ r) (by (closes m) taken.3 (bytes_are_the_requests taken.1 rest received closed))
    ∙ sym (append_assoc (print_message m) (law.printed received) rest)
  where
    by : (last : Bool) → Follows taken.1 received closed rest last → (Takes taken.1 received closed rest → taken.1 ≡ law.printed received ++ rest) →
        taken.1 ≡ law.printed received ++ rest
    by true follows go = follows.2 ∙ ap (λ r. law.printed r ++ rest) (sym follows.0)
    by false follows go = go follows

pub taken_are_messages : law.TakenAreMessages
taken_are_messages bytes rest before later m closed taken = (reaches bytes rest before later (Whole m) closed taken).1.0

pub refused_head_is_left : law.RefusedHeadIsLeft
refused_head_is_left bytes rest before later fault closed taken = let there = reaches bytes rest before later (Refused fault) closed taken in
    subst (λ b. RefusesHead b fault) there.1.3 there.1.0

pub last_one_closes : law.LastOneCloses
last_one_closes bytes rest before later x closed taken last = let there = reaches bytes rest before later x closed taken in by x last there.0 there.1
  where
    by : (x : Received) → is_last x ≡ true → (from : List ℕ) → Takes from (x ∷ later) closed rest → (later ≡ []) × (closed ≡ true)
    by (Refused fault) last from taken = (taken.1, taken.2)
    by (Whole m) last from taken = let follows = subst (Follows taken.1 later closed rest) last taken.3 in (follows.0, follows.1)

abbrev Ends : List Received → Type 0
Ends received = (before : List Received) × (x : Received) × (received ≡ before ++ x ∷ []) × (is_last x ≡ true)

pub closed_by_the_last : law.ClosedByTheLast
closed_by_the_last bytes rest [] taken = not_both refl taken.0
closed_by_the_last bytes rest (Refused fault ∷ received) taken = ([], Refused fault, ap (λ r. Refused fault ∷ r) taken.1, refl)
closed_by_the_last bytes rest (Whole m ∷ received) taken = by (closes m) refl taken.3 (closed_by_the_last taken.1 rest received)
  where
    by : (last : Bool) → closes m ≡ last → Follows taken.1 received true rest last → (Takes taken.1 received true rest → Ends received) →
        Ends (Whole m ∷ received)
    by true is follows go = ([], Whole m, ap (λ r. Whole m ∷ r) follows.0, is)
    by false is follows go = let ends = go follows in (Whole m ∷ ends.0, ends.1, ap (λ r. Whole m ∷ r) ends.2, ends.3)

-- ---- how the bytes end

pub clean_end_leaves_nothing : law.CleanEndLeavesNothing
clean_end_leaves_nothing bytes received read = bytes_are_the_requests bytes read.0 received false read.1
    ∙ ap (λ rest. law.printed received ++ rest) read.2 ∙ append-nil (law.printed received)

pub partial_end_leaves_a_part : law.PartialEndLeavesAPart
partial_end_leaves_a_part bytes received read = (
  read.0,
  bytes_are_the_requests bytes read.0 received false read.1,
  read.2.0,
  λ none. absurd (omega (arith, read.2.1, ap length none)),
)

-- Seats one after the other.
use Rattle.std.proofs.Common.{◌≡◌, ◌<◌, ◌+◌, ℕ, Bool, Some, List, length, slice_get, sym, subst, inl, inr, arith}
use Rattle.std.proofs.lemmas.Bool.{cases_eq, cases_lt}
use Rattle.std.proofs.lemmas.Option.{slice_get_within}
use Rattle.ns_json.specs.Replies.{Entry}
use Rattle.ns_log.specs.declared.receipts.receipt.Receipt.{Receipt}
use Rattle.ns_log.specs.Marks.{AreMarks, FitsSeat, FitSeatBefore, IsFirstUnfit, IsMarked, MarkedBy}
use Rattle.ns_log.specs.Settling.{Fits, FitBefore, IsAt, IsNamed, IsUnfit, Settles}
use Rattle.ns_log.proofs.Marking.{below_next, same_some}

-- ---- one seat among all

-- a receipt of seat i is one of its list
pub in_seat : (seats : List (List Receipt)) (i j : ℕ) (r : Receipt) (s : List Receipt) → slice_get seats i ≡ Some s → IsAt seats i j r → slice_get s j ≡ Some r
in_seat seats i j r s here at =
    subst (λ (x : List Receipt). slice_get x j ≡ Some r) (same_some (slice_get seats i) at.seat s at.is_seat here) at.is_receipt

pub at_seat : (seats : List (List Receipt)) (i j : ℕ) (r : Receipt) (s : List Receipt) → slice_get seats i ≡ Some s → slice_get s j ≡ Some r → IsAt seats i j r
at_seat seats i j r s here at = record { seat = s; is_seat = here; is_receipt = at }

pub fits_by_marks : (log : List Entry) (seats : List (List Receipt)) (i j : ℕ) (r : Receipt) (s : List Receipt) (marks : List Bool)
    → slice_get seats i ≡ Some s → AreMarks seats i marks → FitsSeat log marks s j r → Fits log seats i j r
fits_by_marks log seats i j r s marks here marked fits = record {
  tells = fits.fits.0;
  rises = λ k q lt at. fits.rises k q lt (in_seat seats i k q s here at);
  once = λ h k q lt at e. fits.fits.1 ((marked r.place).1 (h, k, q, lt, at, e));
}

pub marks_by_fits : (log : List Entry) (seats : List (List Receipt)) (i j : ℕ) (r : Receipt) (s : List Receipt) (marks : List Bool)
    → slice_get seats i ≡ Some s → AreMarks seats i marks → Fits log seats i j r → FitsSeat log marks s j r
marks_by_fits log seats i j r s marks here marked fits = record {
  fits = (fits.tells, (λ m. let w = (marked r.place).0 m in fits.once w.0 w.1 w.2 w.3 w.4 w.5));
  rises = λ k q lt at. fits.rises k q lt (at_seat seats i k q s here at);
}

-- the seats before i fit, and the first receipts of seat i
pub fit_in_seat : (log : List Entry) (seats : List (List Receipt)) (i j : ℕ) (s : List Receipt) (marks : List Bool)
    → slice_get seats i ≡ Some s → AreMarks seats i marks → FitBefore log seats i 0 → FitSeatBefore log marks s j → FitBefore log seats i j
fit_in_seat log seats i j s marks here marked before first h k q at where_it_is =
    elim where_it_is [
      | inl less ↦ before h k q at (inl less)
      | inr w ↦
          let at' : IsAt seats i k q = subst (λ (n : ℕ). IsAt seats n k q) w.0 at in
          let fits : Fits log seats i k q = fits_by_marks log seats i k q s marks here marked (first k q w.1 (in_seat seats i k q s here at')) in
          subst (λ (n : ℕ). Fits log seats n k q) (sym w.0) fits
    ]

pub unfit_in_seat : (log : List Entry) (seats : List (List Receipt)) (i p : ℕ) (s : List Receipt) (marks : List Bool)
    → slice_get seats i ≡ Some s → AreMarks seats i marks → FitBefore log seats i 0 → IsFirstUnfit log marks s p → IsUnfit log seats i p
unfit_in_seat log seats i p s marks here marked before first = record {
  number = first.number;
  receipt = first.receipt;
  is_at = at_seat seats i first.number first.receipt s here first.is_receipt;
  names = first.names;
  before = fit_in_seat log seats i first.number s marks here marked before first.before;
  unfit = λ fits. first.unfit (marks_by_fits log seats i first.number first.receipt s marks here marked fits);
}

-- ---- the next seat

pub fit_next_seat : (log : List Entry) (seats : List (List Receipt)) (i : ℕ) (s : List Receipt)
    → slice_get seats i ≡ Some s → FitBefore log seats i (length s) → FitBefore log seats (i + 1) 0
fit_next_seat log seats i s here before h k q at where_it_is =
    elim where_it_is [
      | inl less ↦
          elim (below_next h i less) [
            | inl less' ↦ before h k q at (inl less')
            | inr e ↦
                let at' : IsAt seats i k q = subst (λ (n : ℕ). IsAt seats n k q) e at in
                before h k q at (inr (e, slice_get_within s k q (in_seat seats i k q s here at')))
          ]
      | inr w ↦ absurd (omega (arith, w.1))
    ]

pub marks_next_seat : (seats : List (List Receipt)) (i : ℕ) (s : List Receipt) (old new : List Bool)
    → slice_get seats i ≡ Some s → AreMarks seats i old → MarkedBy old s (length s) new → AreMarks seats (i + 1) new
marks_next_seat seats i s old new here marked by p = (
  (λ is.
      elim ((by p).0 is) [
        | inl before ↦ let w = (marked p).0 before in (w.0, w.1, w.2, omega (arith, w.3), w.4, w.5)
        | inr w ↦ (i, w.0, w.1, omega arith, at_seat seats i w.0 w.1 s here w.3, w.4)
      ]),
  (λ w.
      (by p).1
      (elim (below_next w.0 i w.3) [
        | inl less ↦ inl ((marked p).1 (w.0, w.1, w.2, less, w.4, w.5))
        | inr e ↦
            let at' : IsAt seats i w.1 w.2 = subst (λ (n : ℕ). IsAt seats n w.1 w.2) e w.4 in
            let in_s : slice_get s w.1 ≡ Some w.2 = in_seat seats i w.1 w.2 s here at' in
            inr (w.1, w.2, slice_get_within s w.1 w.2 in_s, in_s, w.5)
      ])),
)

-- ---- all seats

-- what is marked at the end is named
pub named_by_marks : (seats : List (List Receipt)) (i p : ℕ) (marks : List Bool) → AreMarks seats i marks → IsMarked marks p → IsNamed seats p
named_by_marks seats i p marks marked is = let w = (marked p).0 is in (w.0, w.1, w.2, w.4, w.5)

pub marked_by_name : (seats : List (List Receipt)) (p : ℕ) (marks : List Bool) → AreMarks seats (length seats) marks → IsNamed seats p
    → IsMarked marks p
marked_by_name seats p marks marked w = (marked p).1 (w.0, w.1, w.2, slice_get_within seats w.0 w.3.seat w.3.is_seat, w.3, w.4)

-- all receipts fit, this one too
pub all_fit : (log : List Entry) (seats : List (List Receipt)) (i j : ℕ) (r : Receipt) → FitBefore log seats (length seats) 0
    → IsAt seats i j r → Fits log seats i j r
all_fit log seats i j r fit at = fit i j r at (inl (slice_get_within seats i at.seat at.is_seat))

-- fitting receipts of one seat that name one place are one
once_in_seat : (log : List Entry) (seats : List (List Receipt)) (i j k : ℕ) (r q : Receipt) → FitBefore log seats (length seats) 0
    → IsAt seats i j r → IsAt seats i k q → r.place ≡ q.place → j ≡ k
once_in_seat log seats i j k r q fit first second same =
    elim (cases_eq j k) [
      | inl e ↦ e
      | inr ne ↦
          elim (cases_lt j k) [
            | inl less ↦ absurd (omega (arith, (all_fit log seats i k q fit second).rises j r less first))
            | inr more ↦ absurd (omega (arith, (all_fit log seats i j r fit first).rises k q (omega arith) second))
          ]
    ]

once_in_all : (log : List Entry) (seats : List (List Receipt)) (i j h k : ℕ) (r q : Receipt) → FitBefore log seats (length seats) 0
    → IsAt seats i j r → IsAt seats h k q → r.place ≡ q.place → (i ≡ h) × (j ≡ k)
once_in_all log seats i j h k r q fit first second same =
    elim (cases_eq i h) [
      | inl e ↦ (e, once_in_seat log seats i j k r q fit first (subst (λ (n : ℕ). IsAt seats n k q) (sym e) second) same)
      | inr ne ↦
          elim (cases_lt i h) [
            | inl less ↦ absurd ((all_fit log seats h k q fit second).once i j r less first same)
            | inr more ↦ absurd ((all_fit log seats i j r fit first).once h k q (omega arith) second (sym same))
          ]
    ]

pub settles_by_fit : (log : List Entry) (seats : List (List Receipt)) → FitBefore log seats (length seats) 0
    → ((p : ℕ) → p < length log → IsNamed seats p) → Settles log seats
settles_by_fit log seats fit named = record {
  rises = λ i j k r q first second less. (all_fit log seats i k q fit second).rises j r less first;
  tells = λ i j r at. (all_fit log seats i j r fit at).tells;
  once = λ i j h k r q first second same. once_in_all log seats i j h k r q fit first second same;
  all = named;
}

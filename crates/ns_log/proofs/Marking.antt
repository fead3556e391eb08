-- Marks along one seat.
use Rattle.std.proofs.Common.{◌≡◌, ◌≢◌, ◌<◌, ◌+◌, ◌⊎◌, ◌∙◌, ℕ, zero, suc, Bool, true, Option, Some, List, [], ◌∷◌}
use Rattle.std.proofs.Common.{length, slice_get, slice_set, refl, sym, ap, subst, inl, inr, arith}
use Rattle.std.proofs.lemmas.Bool.{cases_eq}
use Rattle.ns_json.specs.Replies.{Entry}
use Rattle.ns_log.specs.declared.receipts.receipt.Receipt.{Receipt}
use Rattle.ns_log.specs.Marks.{FitsSeat, FitSeatBefore, IsMarked, MarkedBy}

pub slice_get-set_same : (xs : List Bool) (i : ℕ) (x : Bool) → i < length xs → slice_get (slice_set xs i x) i ≡ Some x
slice_get-set_same [] i x lt = absurd (omega arith)
slice_get-set_same (y ∷ xs) zero x lt = refl
slice_get-set_same (y ∷ xs) (suc i) x lt = slice_get-set_same xs i x (omega arith)

pub slice_get-set_other : (xs : List Bool) (i p : ℕ) (x : Bool) → p ≢ i → slice_get (slice_set xs i x) p ≡ slice_get xs p
slice_get-set_other [] i p x ne = refl
slice_get-set_other (y ∷ xs) zero zero x ne = absurd (ne refl)
slice_get-set_other (y ∷ xs) zero (suc p) x ne = refl
slice_get-set_other (y ∷ xs) (suc i) zero x ne = refl
slice_get-set_other (y ∷ xs) (suc i) (suc p) x ne = slice_get-set_other xs i p x (λ e. ne (ap suc e))

-- below k + 1 is below k, or k
pub below_next : (j k : ℕ) → j < k + 1 → (j < k) ⊎ (j ≡ k)
below_next j k lt = elim (cases_eq j k) [ inl e ↦ inr e | inr ne ↦ inl (omega arith) ]

pub same_some : {X : Type 0} → (o : Option X) (x y : X) → o ≡ Some x → o ≡ Some y → x ≡ y
same_some o x y a b = cc

-- the receipt at an index is one
pub same_receipt : (rs : List Receipt) (j k : ℕ) (r q : Receipt) → slice_get rs k ≡ Some r → slice_get rs j ≡ Some q → j ≡ k → r ≡ q
same_receipt rs j k r q here at e = same_some (slice_get rs k) r q here (subst (λ (n : ℕ). slice_get rs n ≡ Some q) e at)

pub fits_next : (log : List Entry) (marks : List Bool) (rs : List Receipt) (k : ℕ) (r : Receipt)
    → FitSeatBefore log marks rs k → slice_get rs k ≡ Some r → FitsSeat log marks rs k r → FitSeatBefore log marks rs (k + 1)
fits_next log marks rs k r before here fits j q lt at =
    elim (below_next j k lt) [
      | inl less ↦ before j q less at
      | inr e ↦ subst (λ (n : ℕ). FitsSeat log marks rs n q) (sym e)
          (subst (λ (x : Receipt). FitsSeat log marks rs k x) (same_receipt rs j k r q here at e) fits)
    ]

pub marked_next : (old new : List Bool) (rs : List Receipt) (k : ℕ) (r : Receipt)
    → slice_get rs k ≡ Some r → r.place < length new → MarkedBy old rs k new → MarkedBy old rs (k + 1) (slice_set new r.place true)
marked_next old new rs k r here within marked p = (
  (λ is.
      elim (cases_eq p r.place) [
        | inl e ↦ inr (k, r, omega arith, here, sym e)
        | inr ne ↦
            elim ((marked p).0 (sym (slice_get-set_other new r.place p true ne) ∙ is)) [
              | inl before ↦ inl before
              | inr w ↦ inr (w.0, w.1, omega (arith, w.2), w.3, w.4)
            ]
      ]),
  (λ is.
      elim (cases_eq p r.place) [
        | inl e ↦ subst (λ (n : ℕ). IsMarked (slice_set new r.place true) n) (sym e) (slice_get-set_same new r.place true within)
        | inr ne ↦
            slice_get-set_other new r.place p true ne
            ∙ (marked p).1
            (elim is [
              | inl before ↦ inl before
              | inr w ↦
                  elim (below_next w.0 k w.2) [
                    | inl less ↦ inr (w.0, w.1, less, w.3, w.4)
                    | inr e ↦ absurd (ne (sym w.4 ∙ ap (λ (x : Receipt). x.place) (sym (same_receipt rs w.0 k r w.1 here w.3 e))))
                  ]
            ])
      ]),
)

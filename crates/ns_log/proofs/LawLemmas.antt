-- Settling excludes faults, and one fault every other.
use Rattle.std.proofs.Common.{◌≡◌, ◌<◌, ◌⊎◌, ◌∙◌, ℕ, Some, List, slice_get, sym, ap, subst, inl, inr, arith}
use Rattle.std.proofs.lemmas.Bool.{cases_eq, cases_lt}
use Rattle.ns_json.specs.Replies.{Entry}
use Rattle.ns_log.specs.declared.receipts.receipt.Receipt.{Receipt}
use Rattle.ns_log.specs.Laws.{SettledIsNotFaulted, OneFault}
use Rattle.ns_log.specs.Settling.{Fits, IsAt, IsMissing, IsUnfit, Settles}
use Rattle.ns_log.proofs.Marking.{same_receipt}
use Rattle.ns_log.proofs.Seating.{all_fit, in_seat}

settled_fits : (log : List Entry) (seats : List (List Receipt)) (i j : ℕ) (r : Receipt) → Settles log seats → IsAt seats i j r → Fits log seats i j r
settled_fits log seats i j r settled at = record {
  tells = settled.tells i j r at;
  rises = λ k q less other. settled.rises i k j q r other at less;
  once = λ h k q less other same. omega (arith, (settled.once h k i j q r other at same).0);
}

pub settled_is_not_faulted : SettledIsNotFaulted
settled_is_not_faulted log seats i p settled (inl f) = f.unfit (settled_fits log seats i f.number f.receipt settled f.is_at)
settled_is_not_faulted log seats i p settled (inr f) = f.1.unnamed (settled.all p f.1.within)

-- ---- one fault

-- what comes before a receipt that is first at fault is not at fault
not_before : (log : List Entry) (seats : List (List Receipt)) (i p h q : ℕ) (f : IsUnfit log seats i p) (g : IsUnfit log seats h q)
    → (i < h) ⊎ ((i ≡ h) × (f.number < g.number)) → ⊥
not_before log seats i p h q f g earlier = f.unfit (g.before i f.number f.receipt f.is_at earlier)

same_number : (log : List Entry) (seats : List (List Receipt)) (i p h q : ℕ) (f : IsUnfit log seats i p) (g : IsUnfit log seats h q)
    → i ≡ h → f.number ≡ g.number
same_number log seats i p h q f g e =
    elim (cases_eq f.number g.number) [
      | inl same ↦ same
      | inr ne ↦
          elim (cases_lt f.number g.number) [
            | inl less ↦ absurd (not_before log seats i p h q f g (inr (e, less)))
            | inr more ↦ absurd (not_before log seats h q i p g f (inr (sym e, omega arith)))
          ]
    ]

same_seat : (log : List Entry) (seats : List (List Receipt)) (i p h q : ℕ) → IsUnfit log seats i p → IsUnfit log seats h q → i ≡ h
same_seat log seats i p h q f g =
    elim (cases_eq i h) [
      | inl same ↦ same
      | inr ne ↦
          elim (cases_lt i h) [
            | inl less ↦ absurd (not_before log seats i p h q f g (inl less))
            | inr more ↦ absurd (not_before log seats h q i p g f (inl (omega arith)))
          ]
    ]

same_place : (log : List Entry) (seats : List (List Receipt)) (i p h q : ℕ) (f : IsUnfit log seats i p) (g : IsUnfit log seats h q)
    → i ≡ h → f.number ≡ g.number → p ≡ q
same_place log seats i p h q f g e same =
    let at : IsAt seats i g.number g.receipt = subst (λ (n : ℕ). IsAt seats n g.number g.receipt) (sym e) g.is_at in
    let here : slice_get f.is_at.seat g.number ≡ Some g.receipt = in_seat seats i g.number g.receipt f.is_at.seat f.is_at.is_seat at in
    sym f.names ∙ ap (λ (x : Receipt). x.place) (same_receipt f.is_at.seat g.number f.number f.receipt g.receipt f.is_at.is_receipt here (sym same)) ∙ g.names

none_unfit : (log : List Entry) (seats : List (List Receipt)) (i p q : ℕ) → IsUnfit log seats i p → IsMissing log seats q → ⊥
none_unfit log seats i p q f g = f.unfit (all_fit log seats i f.number f.receipt g.fit f.is_at)

same_missing : (log : List Entry) (seats : List (List Receipt)) (p q : ℕ) → IsMissing log seats p → IsMissing log seats q → p ≡ q
same_missing log seats p q f g =
    elim (cases_eq p q) [
      | inl same ↦ same
      | inr ne ↦
          elim (cases_lt p q) [
            | inl less ↦ absurd (f.unnamed (g.before p less))
            | inr more ↦ absurd (g.unnamed (f.before q (omega arith)))
          ]
    ]

pub one_fault : OneFault
one_fault log seats i p h q (inl f) (inl g) =
    let seat = same_seat log seats i p h q f g in
    (seat, same_place log seats i p h q f g seat (same_number log seats i p h q f g seat))
one_fault log seats i p h q (inl f) (inr g) = absurd (none_unfit log seats i p q f g.1)
one_fault log seats i p h q (inr f) (inl g) = absurd (none_unfit log seats h q p g f.1)
one_fault log seats i p h q (inr f) (inr g) = (f.0 ∙ sym g.0, same_missing log seats p q f.1 g.1)

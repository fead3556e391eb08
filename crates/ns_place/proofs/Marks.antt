-- One number more.
use Rattle.std.specs.Prelude.{◌≡◌, ℕ, ◌+◌, ◌<◌, ◌≤◌, ◌++◌, Bool, true, false, List, [], ◌∷◌, ◌||◌, length, take}
use Rattle.std.proofs.Common.{add-one, arith, get_or, refl, sym, ap, subst, ◌∙◌}
use Rattle.std.proofs.Math.Seq.{take-suc}
use Rattle.std.proofs.lemmas.List.Folds.{list_any-append}
use Rattle.std.proofs.Math.Bool.{or-false}
use Rattle.ns_types.specs.State.Names.{has_number, same_number}
use Rattle.ns_types.proofs.Named.{one_number}
use Rattle.ns_types.proofs.Tables.{tied}
use Rattle.ns_place.specs.Marks.{AreFlags}

-- one that has no flag changes none
pub without_flag : (flags : List Bool) (numbers : List ℕ) (x : ℕ) → 1000 ≤ x → AreFlags flags numbers → AreFlags flags (numbers ++ x ∷ [])
without_flag flags numbers x large are k small = are k small ∙ sym (list_any-append (same_number k) numbers (x ∷ [])
    ∙ ap (λ b. has_number numbers k || (b || false)) (apart (same_number k x) refl) ∙ or-false (has_number numbers k))
  where
    apart : (b : Bool) → same_number k x ≡ b → same_number k x ≡ false
    apart true e = let same = tied one_number k x e in absurd (omega (arith, same, small, large))
    apart false e = e

pub flags_next : (numbers : List ℕ) (i : ℕ) → i < length numbers → (flags : List Bool) →
    AreFlags flags (take i numbers ++ get_or numbers i 0 ∷ []) → AreFlags flags (take (i + 1) numbers)
flags_next numbers i inside flags = subst (AreFlags flags) (sym (ap (λ n. take n numbers) (add-one i) ∙ take-suc numbers i 0 inside))

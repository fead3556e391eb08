-- What is left of a node where nothing stops.
use Rattle.std.specs.Prelude.{◌≡◌, ℕ, Bool, true, false, cond, not, ◌&&◌, ◌==◌, List, [], ◌∷◌, length}
use Rattle.std.specs.Str.{bytes_eq}
use Rattle.std.proofs.Common.{refl, ap, arith, ◌∙◌}
use Rattle.std.proofs.lemmas.Bool.{ne_eqb, true≢false}
use Rattle.ns_types.specs.declared.snapshot.LiveAllocation.{LiveAllocation}
use Rattle.ns_types.specs.Placing.Plan.{staying}

pub empty_is : {X : Type 0} (xs : List X) → true ≡ (length xs == 0) → xs ≡ []
empty_is [] is = refl
empty_is (x ∷ xs) is = absurd (true≢false (is ∙ ne_eqb (length (x ∷ xs)) 0 (λ e. absurd (omega (arith, e)))))

pub all_stay : (namespace : List ℕ) (live : List LiveAllocation) → staying namespace [] live ≡ live
all_stay namespace [] = refl
all_stay namespace (a ∷ live) = by (bytes_eq a.namespace namespace) (all_stay namespace live)
  where
    by : (b : Bool) → staying namespace [] live ≡ live →
        cond (not (b && false)) (a ∷ staying namespace [] live) (staying namespace [] live) ≡ a ∷ live
    by true rest = ap (λ l. a ∷ l) rest
    by false rest = ap (λ l. a ∷ l) rest

-- What holds of each element of a list and each later one, by places and by recursion.
use Rattle.std.specs.Prelude.{ℕ, suc, ◌<◌, List, [], ◌∷◌, length}
use Rattle.std.specs.List.{AllPairs, slice_index_or}
use Rattle.std.proofs.Common.{arith}
use Rattle.std.proofs.lemmas.List.Kept.{AllPairs-cons}
use Rattle.ns_types.specs.State.Lists.{Each}
use Rattle.ns_types.proofs.Elements.{all_from}
use Rattle.ns_audit.proofs.ValidEvaluations.Pairs.{Pairs}

module _ {X : Type 0} where
  each_index : (P : X → Type 0) (xs : List X) (d : X) → ((j : ℕ) → j < length xs → P (slice_index_or xs j d)) → Each P xs
  each_index P [] d h = tt
  each_index P (x ∷ xs) d h = (h 0 (omega arith), each_index P xs d (λ j lt. h (suc j) (omega (arith, lt))))

  module _ (R : X → X → Type 0) where
    pub pairs_from : (xs : List X) → AllPairs R xs → Pairs R xs
    pairs_from [] h = tt
    pairs_from (x ∷ xs) h = (
      each_index (R x) xs x (λ j lt. h 0 (suc j) x (omega arith) (omega (arith, lt))),
      pairs_from xs (λ i j d lt within. h (suc i) (suc j) d (omega (arith, lt)) (omega (arith, within))),
    )

    pub all_pairs : (xs : List X) → Pairs R xs → AllPairs R xs
    all_pairs [] h = none
      where
        none : AllPairs R []
        none i j d lt within = absurd (omega (arith, within))
    all_pairs (x ∷ xs) h = AllPairs-cons R x xs (all_from (R x) xs h.0) (all_pairs xs h.1)

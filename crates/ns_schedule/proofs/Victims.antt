-- What the best node, and the node with the cheapest victims, say of the choice.
use Rattle.std.proofs.Common.{◌≡◌, ◌<◌, ℕ, List, [], ◌∷◌, length, take, get_or, Option, Some, None, true, Bool, is_some, ap, sym, ◌∙◌, arith}
use Rattle.std.specs.List.{HoldsAt, slice_get}
use Rattle.std.specs.Option.{option_map, option_and_then, option_map_or}
use Rattle.std.proofs.lemmas.Bool.{and_parts, false≢true}
use Rattle.std.proofs.lemmas.List.Elements.{at_read}
use Rattle.std.proofs.lemmas.List.Quantifiers.{position-Some}
use Rattle.std.proofs.lemmas.Option.{slice_get-get_or, none-some}
use Rattle.ns_types.specs.declared.resources.Resources.{Resources}
use Rattle.ns_types.specs.Placing.Choice.{is_unbeaten, best}
use Rattle.ns_types.specs.Placing.Placement.{Candidate, fits, better, best_fit}
use Rattle.ns_types.specs.Placing.Planning.{preempt}
use Rattle.ns_types.specs.Placing.Preemption.{victims, cheaper, best_victims}
use Rattle.ns_types.specs.State.Resources.{is_within}
use Rattle.ns_preempt.specs.Fewest.{IsFewest}
use Rattle.ns_schedule.specs.Chosen.{IsChosen}
use Rattle.ns_types.proofs.Amounts.{plus_none}

-- the best passes
best_passes : {X : Type 0} (passes : X → Bool) (beats : X → X → Bool) (xs : List X) (k : ℕ) → best passes beats xs ≡ Some k
    → (k < length xs) × ((d : X) → passes (get_or xs k d) ≡ true)
best_passes passes beats [] k e = absurd (none-some k e)
best_passes passes beats (x ∷ xs) k e = (
  (position-Some (is_unbeaten passes beats (x ∷ xs)) (x ∷ xs) k x e).0,
  λ d. (and_parts _ _ (position-Some (is_unbeaten passes beats (x ∷ xs)) (x ∷ xs) k d e).1).0,
)

module _ (size : Resources) (cs : List Candidate) (k : ℕ) where
  pub chosen_with_room : best_fit size cs ≡ Some k → (k < length cs) × HoldsAt (IsChosen size cs k 0) cs k
  chosen_with_room e =
      let b = best_passes (fits size) (better size) cs k e in (
        b.0,
        λ d. record {
          within = omega arith;
          room = ap (is_within size) (plus_none (get_or cs k d).left) ∙ (and_parts _ _ (b.1 d)).1;
          chosen = ap (λ (o : Option ℕ). option_map_or (λ j. Some (record { node = j; victims = [] })) o (preempt size cs)) e;
        },
      )

  pub chosen_with_victims : best_fit size cs ≡ None → best_victims size cs ≡ Some k → (n : ℕ) (x : Candidate) → x ≡ get_or cs k x
      → IsFewest size x n → (k < length cs) × HoldsAt (IsChosen size cs k n) cs k
  chosen_with_victims full e n x reads few =
      let b = best_passes (λ c. is_some (victims size c)) (cheaper size) cs k e in
      let there : slice_get cs k ≡ Some x = slice_get-get_or cs k x b.0 ∙ ap Some (sym reads) in
      let found : option_and_then (victims size) (slice_get cs k) ≡ Some (take n x.evictable) = ap (option_and_then (victims size)) there ∙ few.fewest in (
        b.0,
        at_read cs (IsChosen size cs k n) k x b.0 reads (record {
          within = few.within;
          room = few.room;
          chosen =
              ap (λ (o : Option ℕ). option_map_or (λ j. Some (record { node = j; victims = [] })) o (preempt size cs)) full
              ∙ (ap (option_and_then (λ j. option_map (λ v. record { node = j; victims = v }) (option_and_then (victims size) (slice_get cs j)))) e
              ∙ ap (option_map (λ v. record { node = k; victims = v })) found);
        }),
      )

  pub has_victims : best_victims size cs ≡ Some k → (x : Candidate) → x ≡ get_or cs k x → victims size x ≡ None → ⊥
  has_victims e x reads h =
      let b = best_passes (λ c. is_some (victims size c)) (cheaper size) cs k e in
      false≢true (sym (ap is_some h) ∙ (ap (λ (c : Candidate). is_some (victims size c)) reads ∙ b.1 x))

-- The order of the nodes after a placement.
use Rattle.std.proofs.Common.{◌≡◌, ◌<◌, ◌++◌, ◌∷◌, [], ℕ, List, length, take, false, ap, sym, ◌∙◌, subst}
use Rattle.std.specs.List.{HoldsAt}
use Rattle.ns_types.specs.declared.resources.Resources.{Resources}
use Rattle.ns_types.specs.Placing.Placement.{Candidate}
use Rattle.ns_types.specs.Placing.Planning.{placed_on, update}
use Rattle.ns_types.specs.State.Resources.{none}
use Rattle.ns_place.specs.Order.{Walk, walk, IsOrder, IsNextNode}
use Rattle.ns_place.proofs.Walk.{next_keeps_order, changed_alone_is_order}

pub nobody : Candidate
nobody = record { name = []; feasible = false; left = none; evictable = [] }

module _ (w : Walk) (cs after : List Candidate) (k : ℕ) (o : IsOrder w cs) where
  -- at the next node
  pub order_taken : IsNextNode w cs k → (size : Resources) → w.size ≡ size
      → HoldsAt (λ c. after ≡ update k (placed_on size (take 0 c.evictable)) cs) cs k → IsOrder w after
  order_taken next size same changed =
      subst (λ (ys : List Candidate). IsOrder w ys)
      (sym (changed nobody ∙ ap (λ (s : Resources). update k (placed_on s []) cs) (sym same)))
      (next_keeps_order w cs k o next)

  -- where none had room
  pub order_alone : k < length cs → w.rest ≡ [] → (change : Candidate → Candidate) → after ≡ update k change cs
      → (w' : Walk) → w' ≡ walk w.size (w.rest ++ k ∷ []) → IsOrder w' after
  order_alone inside ended change changed w' w'_is =
      subst (λ (v : Walk). IsOrder v after) (sym (w'_is ∙ ap (λ (rest : List ℕ). walk w.size (rest ++ k ∷ [])) ended))
      (subst (λ (ys : List Candidate). IsOrder (walk w.size (k ∷ [])) ys) (sym changed)
      (changed_alone_is_order w.size cs k change inside (subst (λ (rest : List ℕ). IsOrder (walk w.size rest) cs) ended o)))

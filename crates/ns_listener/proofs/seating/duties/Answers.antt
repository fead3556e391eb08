use Rattle.std.proofs.Common.{◌≡◌, ◌+◌, ◌++◌, ◌∙◌, ℕ, List, [], ◌∷◌, map, ap, arith, sym}
use Rattle.std.specs.List.{range_with_len}
use Rattle.std.proofs.lemmas.List.{append_assoc}
use Rattle.std.proofs.lemmas.List.FromFn.{map-range_with_len_more}
use Rattle.ns_listener.specs.declared.duty.Duty.{Duty}
use Rattle.ns_listener.specs.declared.duty.Duty.TheVariants.{Worker}
use Rattle.ns_listener.proofs.seating.duties.Goals as goal

-- behind what came before them, the workers and one more
one_more : {D : Type 0} (before now next : List (Duty D)) (n : ℕ) → now ≡ before ++ map Worker (range_with_len 0 n) →
    next ≡ now ++ Worker n ∷ [] → next ≡ before ++ map Worker (range_with_len 0 (n + 1))
one_more {D = D} before now next n are is =
    let more = map-range_with_len_more {X = Duty D} Worker 0 n n (omega arith) in
    is ∙ ap (λ x. x ++ Worker n ∷ []) are ∙ append_assoc before (map Worker (range_with_len 0 n)) (Worker n ∷ []) ∙ ap (λ x. before ++ x) (sym more)

pub loop-number-preserved : goal.loop-number-preserved
loop-number-preserved g c = one_more _ _ _ c.loop-number.number c.loop-number.invariant c.in_ok-push.ensures.items

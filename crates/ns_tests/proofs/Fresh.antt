-- Keys that no entry has yet.
use Rattle.std.specs.Prelude.{◌≡◌, Bool, true, false, not, ◌&&◌, ◌||◌, List, [], ◌∷◌}
use Rattle.std.proofs.Common.{refl, sym, ap, ◌∙◌}
use Rattle.std.proofs.lemmas.List.Folds.{list_any-append}
use Rattle.ns_types.specs.State.Names.{Key, has_key, same_key}
use Rattle.ns_blocked.specs.declared.entry.BlockedEvaluation.{BlockedEvaluation}
use Rattle.ns_blocked.specs.Blocked.{are_new}

none_of_three : (a b c : Bool) → (not a && not b && not c) ≡ (not a && (not (b || (c || false)) && true))
none_of_three true b c = refl
none_of_three false true c = refl
none_of_three false false true = refl
none_of_three false false false = refl

-- the keys of two entries are new, each and beside the other
pub both_new : (keys : List Key) (first second : BlockedEvaluation) →
    (not (has_key keys first.key) && not (has_key keys second.key) && not (same_key second.key first.key)) ≡ are_new keys (first ∷ second ∷ [])
both_new keys first second = none_of_three (has_key keys first.key) (has_key keys second.key) (same_key second.key first.key)
    ∙ ap (λ b. not (has_key keys first.key) && (not b && true)) (sym (list_any-append (same_key second.key) keys (first.key ∷ [])))

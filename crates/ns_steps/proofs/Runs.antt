-- A run by one step more.
use Rattle.std.proofs.Common.{◌≡◌, List, [], ◌∷◌, ◌++◌, refl, ap, sym, ◌∙◌}
use Rattle.ns_types.specs.declared.step.Step.{Step}
use Rattle.ns_types.specs.State.Rows.{State}
use Rattle.ns_types.specs.Steps.{Answer, Run, after, said}

pub run_then : (s mid s' : State) (steps : List Step) (answers : List Answer) (step : Step) (answer : Answer) → Run s steps answers mid →
    after step mid ≡ said answer s' → Run s (steps ++ step ∷ []) (answers ++ answer ∷ []) s'
run_then s mid s' [] [] step answer is made = (s', ap (after step) (sym is) ∙ made, refl)
run_then s mid s' (first ∷ steps) (told ∷ answers) step answer run made =
    (run.0, run.1, run_then run.0 mid s' steps answers step answer run.2 made)
run_then s mid s' [] (told ∷ answers) step answer run made = absurd run
run_then s mid s' (first ∷ steps) [] step answer run made = absurd run

-- Chains, one after the other, and as runs of the model.
use Rattle.std.proofs.Common.{List, [], ◌∷◌, ◌++◌, refl, subst, ap}
use Rattle.ns_types.specs.declared.step.Step.{Step}
use Rattle.ns_types.specs.State.Rows.{State}
use Rattle.ns_types.specs.Steps.{Answer, Run}
use Rattle.ns_steps.specs.Chains.{Chain, IsMade}

module _ {S : Type 0} (state : S → State) (notes : S → Step → Answer → S → Type 0) where
  pub is_run : (old new : S) (steps : List Step) (answers : List Answer) → Chain state notes old steps answers new →
      Run (state old) steps answers (state new)
  is_run old new [] [] c = ap state c
  is_run old new (step ∷ steps) (answer ∷ answers) c = (state c.0, c.1.made, is_run c.0 new steps answers c.2)
  is_run old new [] (answer ∷ answers) c = absurd c
  is_run old new (step ∷ steps) [] c = absurd c

  pub join : (old mid new : S) (steps rest : List Step) (answers told : List Answer) →
      Chain state notes old steps answers mid → Chain state notes mid rest told new →
      Chain state notes old (steps ++ rest) (answers ++ told) new
  join old mid new [] rest [] told c d = subst (λ x. Chain state notes x rest told new) c d
  join old mid new (step ∷ steps) rest (answer ∷ answers) told c d =
      (c.0, c.1, join c.0 mid new steps rest answers told c.2 d)
  join old mid new [] rest (answer ∷ answers) told c d = absurd c
  join old mid new (step ∷ steps) rest [] told c d = absurd c

  -- one step alone
  pub one : (old new : S) (step : Step) (answer : Answer) → IsMade state notes old step answer new →
      Chain state notes old (step ∷ []) (answer ∷ []) new
  one old new step answer made = (new, made, refl)

  -- one step more
  pub then : (old mid new : S) (steps : List Step) (answers : List Answer) (step : Step) (answer : Answer) →
      Chain state notes old steps answers mid → IsMade state notes mid step answer new →
      Chain state notes old (steps ++ step ∷ []) (answers ++ answer ∷ []) new
  then old mid new steps answers step answer c made =
      join old mid new steps (step ∷ []) answers (answer ∷ []) c (one mid new step answer made)

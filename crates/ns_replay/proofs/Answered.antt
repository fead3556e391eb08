-- A step that needs no plan.
use Rattle.std.specs.Prelude.{◌≡◌, Ok, Err}
use Rattle.std.proofs.Common.{inl, sym, subst}
use Rattle.ns_types.specs.declared.refusal.Refusal.{Refusal}
use Rattle.ns_types.specs.declared.step.Step.{Step}
use Rattle.ns_types.specs.State.Rows.{State}
use Rattle.ns_types.specs.Steps.{Answer, Makes}
use Rattle.ns_replay.specs.Making.{MakesAny}

pub any_of : (step : Step) (s : State) (answer : Answer) (s' : State) → Makes step s answer s' → MakesAny step s answer s'
any_of step s (Ok reply) s' m = m
any_of step s (Err Refusal.Memory) s' m = (inl m.0, m.1)
any_of step s (Err Refusal.NotEnabled) s' m = m
any_of step s (Err refusal) s' m = m

pub any_so : (step made : Step) (s : State) (answer : Answer) (s' : State) → step ≡ made → Makes made s answer s' → MakesAny step s answer s'
any_so step made s answer s' is m = subst (λ x. MakesAny x s answer s') (sym is) (any_of made s answer s' m)

-- The steps of workers.
use Rattle.std.specs.Prelude.{ℕ}
use Rattle.ns_types.specs.declared.step.Step.{Step}
use Rattle.ns_types.specs.State.Names.{Name}
use Rattle.ns_steps.specs.declared.work.Work.{Work}

-- the step in which a worker does that in the namespace
abbrev pub step_of : Work → ℕ → Name → Step
step_of (Work.Dequeue evaluation) worker ns = Step.Dequeue worker ns evaluation
step_of Work.Snap worker ns = Step.Snap worker ns
step_of Work.Submit worker ns = Step.Submit worker ns
step_of Work.Apply worker ns = Step.Apply worker ns
step_of Work.Finish worker ns = Step.Finish worker ns
step_of Work.Nack worker ns = Step.Nack worker ns

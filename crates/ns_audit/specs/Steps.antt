-- Laws of one step and of runs.
use Rattle.std.specs.Prelude.{◌≡◌, List, ◌++◌, length, Err}
use Rattle.ns_types.specs.declared.refusal.Refusal.{Refusal}
use Rattle.ns_types.specs.declared.step.Step.{Step}
use Rattle.ns_types.specs.State.Rows.{State}
use Rattle.ns_types.specs.Steps.{Answer, Run, after, said}

-- From a state, a step leads to at most one answer and one next state.
abbrev pub OneOutcome : Type 0
OneOutcome = (step : Step) (s t u : State) (a b : Answer) → after step s ≡ said a t → after step s ≡ said b u → (a ≡ b)
    × (t ≡ u)

-- A refused step leaves the state as it was.
abbrev pub RefusalLeavesAll : Type 0
RefusalLeavesAll = (step : Step) (s t : State) (refusal : Refusal) → after step s ≡ said (Err refusal) t → t ≡ s

-- A run has as many answers as steps.
abbrev pub AnswerEachStep : Type 0
AnswerEachStep = (s t : State) (steps : List Step) (answers : List Answer) → Run s steps answers t →
    length answers ≡ length steps

-- A run can be cut anywhere: it is a run of its first steps to some state, and from there a run of the rest, with the
-- answers cut likewise.
abbrev pub RunSplits : Type 0
RunSplits = (s t : State) (first rest : List Step) (answers : List Answer) → Run s (first ++ rest) answers t
    → (mid : State) × (before : List Answer) × (later : List Answer) × (answers ≡ before ++ later) ×
    Run s first before mid × Run mid rest later t

-- Two runs, the second from the state in which the first ends, are one run of all their steps with all their answers.
abbrev pub RunsJoin : Type 0
RunsJoin = (s mid t : State) (first rest : List Step) (before later : List Answer) → Run s first before mid →
    Run mid rest later t
    → Run s (first ++ rest) (before ++ later) t

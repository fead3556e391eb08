-- A server with the log of its steps since a first state.
use Rattle.std.specs.Prelude.{◌≡◌, ◌<◌, ◌≤◌, ℕ, ◌+◌, ◌-◌, ◌^◌, List, [], ◌∷◌, ◌++◌, length, map, zip, None, Err}
use Rattle.ns_types.specs.declared.refusal.Refusal.{Refusal}
use Rattle.ns_types.specs.declared.step.Step.{Step}
use Rattle.ns_types.specs.State.Rows.{State}
use Rattle.ns_types.specs.Steps.{Answer, after}
use Rattle.ns_steps.specs.Chains.{IsMade}
use Rattle.ns_json.specs.Replies.{Entry, IsKept, rendered}

-- The state in which the log began, and how many entries were given out before; the steps since then, with each answer as
-- bytes, and the present state; and how many entries the log takes. Entry i of the log has the place start + i.
pub record History : Type 0 where
  pub base : State
  pub start : ℕ
  pub log : List Entry
  pub state : State
  pub limit : ℕ

-- the place of the next entry
abbrev pub next_place : History → ℕ
next_place h = h.start + length h.log

-- the end of the places: each entry has a place below it
abbrev pub places_end : ℕ
places_end = 2 ^ 64 - 1

-- the log's steps and rendered answers are a run from the base to the state, and there are no more than the limit; there are
-- places for as many entries as the limit
abbrev pub Stands : History → Type 0
Stands h = (IsKept h.base h.log h.state × (length h.log ≤ h.limit)) × (h.start + h.limit < 2 ^ 64)

abbrev pub IsFull : History → Type 0
IsFull h = length h.log ≡ h.limit

abbrev pub HasPlace : History → Type 0
HasPlace h = length h.log < h.limit

-- one entry was added: that step with the rendering of its answer
pub record IsNoted (old : History) (step : Step) (answer : Answer) (new : History) : Type 0 where
  pub entry : new.log ≡ old.log ++ (step, rendered answer) ∷ []
  pub base : new.base ≡ old.base
  pub start : new.start ≡ old.start
  pub limit : new.limit ≡ old.limit

-- the step was made with that answer, and noted
abbrev pub IsLogged : Step → History → Answer → History → Type 0
IsLogged step old answer new = IsMade (λ h. h.state) IsNoted old step answer new

-- these steps were added with the rendering of their answers, in their order, and nothing else
pub record AreNoted (old : History) (steps : List Step) (answers : List Answer) (new : History) : Type 0 where
  pub entries : new.log ≡ old.log ++ zip steps (map rendered answers)
  pub base : new.base ≡ old.base
  pub start : new.start ≡ old.start
  pub limit : new.limit ≡ old.limit

-- What a call for a step does, by its answer. A full log is reported first, and want of memory may come next. With these, and
-- with a call out of turn, no step is made, and nothing changes. Every other answer is the step's, and is logged.
abbrev pub Logs : Step → History → Answer → History → Type 0
Logs step old (Err Refusal.LogFull) new = IsFull old × (new ≡ old)
Logs step old (Err Refusal.Memory) new = HasPlace old × (new ≡ old)
Logs step old (Err Refusal.NotEnabled) new = HasPlace old × (after step old.state ≡ None) × (new ≡ old)
Logs step old answer new = HasPlace old × IsLogged step old answer new

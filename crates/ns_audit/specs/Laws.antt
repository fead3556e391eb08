-- Isolation of any choice of owners, which are namespaces, pools and quotas: their own steps go on as if they were
-- alone on the server, and no other step changes what they have.
use Rattle.std.specs.Prelude.{◌≡◌, Bool, true, false}
use Rattle.ns_types.specs.declared.step.Step.{Step}
use Rattle.ns_types.specs.Isolation.{Part, alone, alone_in, is_own}
use Rattle.ns_types.specs.State.Rows.{State, World}
use Rattle.ns_types.specs.Settling.Settle.{settle}
use Rattle.ns_types.specs.Steps.{Answer, said, after, is_past_bound}
use Rattle.ns_audit.specs.Apart.{IsApart, IsAtHome}

-- a state in which a choice is fit for isolation: no namespace reaches over its border, its allocations whose client
-- status is `pending` or `running` are in its pools, and no counter has passed its bound
pub record IsFit (part : Part) (s : State) : Type 0 where
  pub apart : IsApart part s.world
  pub at_home : IsAtHome part s.world
  pub within : is_past_bound s.world ≡ false

-- ---- one step that is no administrator's request

abbrev pub is_admin : Step → Bool
is_admin (Step.Admin secret command) = true
is_admin _ = false

-- A step of the chosen owners' own gets the same answer from the server that holds them alone, and leads there to what
-- they have in the new state.
abbrev pub OwnStepApart : Type 0
OwnStepApart = (part : Part) (s s' : State) (step : Step) (answer : Answer) → IsFit part s → is_admin step ≡ false →
    is_own part step ≡ true
    → after step s ≡ said answer s' → after step (alone part s) ≡ said answer (alone part s')

-- A step that is not the chosen owners' own changes nothing that they have, and no access list.
abbrev pub OtherStepApart : Type 0
OtherStepApart = (part : Part) (s s' : State) (step : Step) (answer : Answer) → IsFit part s → is_admin step ≡ false →
    is_own part step ≡ false
    → after step s ≡ said answer s' → alone part s' ≡ alone part s

-- ---- what each step does at its end

-- The releases, wakes, indexes and events of the chosen owners are those that they would have if there were no others.
abbrev pub SettlesAlone : Type 0
SettlesAlone = (part : Part) (w w' : World) → IsApart part w →
    alone_in part (settle w w') ≡ settle (alone_in part w) (alone_in part w')

-- If the step changed nothing, there is no release, nothing wakes, and no row gets an index.
abbrev pub SettlesIdle : Type 0
SettlesIdle = (w : World) → settle w w ≡ w

-- Two laws for each kind of step, for a namespace that has its pools and its quotas to itself. A step of its own gets
-- the answer that it would get on a server that holds this namespace alone. Any other step changes nothing that it has.
use Rattle.std.specs.Prelude.{◌≡◌, ◌≢◌, ◌⊎◌, ℕ, true, false, List, Option}
use Rattle.ns_types.specs.declared.step.AdminCommand.{AdminCommand}
use Rattle.ns_types.specs.declared.step.AskCommand.{AskCommand}
use Rattle.ns_types.specs.declared.step.NodeCommand.{NodeCommand}
use Rattle.ns_types.specs.declared.step.Report.{Report}
use Rattle.ns_types.specs.declared.step.Step.{Step}
use Rattle.ns_types.specs.Access.Sharing.{is_apart}
use Rattle.ns_types.specs.Isolation.{Part, part_of, alone, Agree, is_own_admin, is_crowded_out}
use Rattle.ns_types.specs.State.Names.{Name, has_name}
use Rattle.ns_types.specs.State.Rows.{State}
use Rattle.ns_types.specs.Steps.{Answer, said, after}
use Rattle.ns_audit.specs.Orderly.{IsSteady}

-- ---- what the laws suppose, and what they say

-- The state s has what isolation rests on, and the namespace has these pools and quotas to itself there. The state t
-- holds exactly what the namespace has in s, and all access lists.
pub record IsBeside (ns : Name) (pools quotas : List Name) (s t : State) : Type 0 where
  pub steady : IsSteady s
  pub apart : is_apart s.world ns pools quotas ≡ true
  pub agree : Agree (part_of ns pools quotas) s t

-- Where the step leads from s to s' with an answer, it leads from t to some t' with the same answer, index included,
-- and s' and t' agree again.
abbrev pub GoesAlike : Part → State → State → Step → Type 0
GoesAlike part s t step = (s' : State) (answer : Answer) → after step s ≡ said answer s' →
    (t' : State) × (after step t ≡ said answer t') × Agree part s' t'

-- Where the step leads from s to s', the state t still agrees with s': the step changed nothing that the namespace has,
-- and no access list.
abbrev pub LeavesIt : Part → State → State → Step → Type 0
LeavesIt part s t step = (s' : State) (answer : Answer) → after step s ≡ said answer s' → Agree part s' t

-- If a state has what isolation rests on and the namespace has these pools and quotas to itself there, the state of the
-- server that holds the namespace alone stands beside it.
abbrev pub AloneIsBeside : Type 0
AloneIsBeside = (ns : Name) (pools quotas : List Name) (s : State) → IsSteady s →
    is_apart s.world ns pools quotas ≡ true → IsBeside ns pools quotas s (alone (part_of ns pools quotas) s)

-- ---- requests in a namespace

-- A request in the namespace, with any secret or none, gets the same answer, and the states agree again.
abbrev pub OwnAsk : Type 0
OwnAsk = (ns : Name) (pools quotas : List Name) (s t : State) (secret : Option Name) (command : AskCommand) →
    IsBeside ns pools quotas s t → GoesAlike (part_of ns pools quotas) s t (Step.Ask ns secret command)

-- A request in another namespace changes nothing that the namespace has.
abbrev pub OtherAsk : Type 0
OtherAsk = (ns asked : Name) (pools quotas : List Name) (s t : State) (secret : Option Name) (command : AskCommand) →
    IsBeside ns pools quotas s t → asked ≢ ns → LeavesIt (part_of ns pools quotas) s t (Step.Ask asked secret command)

-- ---- administrators' requests

-- An administrator's request about the namespace's record, its pools, its quotas or the access lists gets the same
-- answer, and the states agree again. A put of its record has to name its pools and quotas alone. The exception is a
-- put of a new name that is refused because its table is full on the whole server.
abbrev pub OwnAdmin : Type 0
OwnAdmin = (ns : Name) (pools quotas : List Name) (s t s' : State) (secret : Option Name) (command : AdminCommand)
    (answer : Answer) → IsBeside ns pools quotas s t → is_own_admin (part_of ns pools quotas) command ≡ true →
    is_crowded_out (part_of ns pools quotas) (Step.Admin secret command) s answer ≡ false →
    after (Step.Admin secret command) s ≡ said answer s' →
    (t' : State) × (after (Step.Admin secret command) t ≡ said answer t') × Agree (part_of ns pools quotas) s' t'

-- Any other administrator's request changes nothing that the namespace has, if it still has its pools and quotas to
-- itself afterwards.
abbrev pub OtherAdmin : Type 0
OtherAdmin = (ns : Name) (pools quotas : List Name) (s t s' : State) (secret : Option Name) (command : AdminCommand)
    (answer : Answer) → IsBeside ns pools quotas s t → is_own_admin (part_of ns pools quotas) command ≡ false →
    is_apart s'.world ns pools quotas ≡ true → after (Step.Admin secret command) s ≡ said answer s' →
    Agree (part_of ns pools quotas) s' t

-- ---- requests about a pool

-- if the request is a report, it reports an allocation of the namespace
abbrev pub ReportsIts : Name → NodeCommand → Type 0
ReportsIts ns command = (node : Name) (report : Report) → command ≡ NodeCommand.Report node report →
    report.namespace ≡ ns

-- the request is a report, of another namespace's allocation
pub record ReportsAnother (ns : Name) (command : NodeCommand) : Type 0 where
  pub node : Name
  pub report : Report
  pub is_report : command ≡ NodeCommand.Report node report
  pub another : report.namespace ≢ ns

-- A request about one of the namespace's pools, if it is no report of another namespace's allocation, gets the same
-- answer, and the states agree again.
abbrev pub OwnNode : Type 0
OwnNode = (ns pool : Name) (pools quotas : List Name) (s t : State) (secret : Option Name) (command : NodeCommand) →
    IsBeside ns pools quotas s t → has_name pools pool ≡ true → ReportsIts ns command →
    GoesAlike (part_of ns pools quotas) s t (Step.Node pool secret command)

-- A request about another pool, or a report of another namespace's allocation, changes nothing that the namespace has.
abbrev pub OtherNode : Type 0
OtherNode = (ns pool : Name) (pools quotas : List Name) (s t : State) (secret : Option Name) (command : NodeCommand) →
    IsBeside ns pools quotas s t → (has_name pools pool ≡ false) ⊎ ReportsAnother ns command →
    LeavesIt (part_of ns pools quotas) s t (Step.Node pool secret command)

-- ---- workers' steps

-- a worker's step for the namespace gets the same answer, and the states agree again
abbrev pub OwnWork : (Name → Step) → Type 0
OwnWork made_for = (ns : Name) (pools quotas : List Name) (s t : State) → IsBeside ns pools quotas s t →
    GoesAlike (part_of ns pools quotas) s t (made_for ns)

-- a worker's step for another namespace changes nothing that the namespace has
abbrev pub OtherWork : (Name → Step) → Type 0
OtherWork made_for = (ns other : Name) (pools quotas : List Name) (s t : State) → IsBeside ns pools quotas s t →
    other ≢ ns → LeavesIt (part_of ns pools quotas) s t (made_for other)

-- the worker dequeues the evaluation with the number n
abbrev pub OwnDequeue : Type 0
OwnDequeue = (worker n : ℕ) → OwnWork (λ ns. Step.Dequeue worker ns n)

abbrev pub OtherDequeue : Type 0
OtherDequeue = (worker n : ℕ) → OtherWork (λ ns. Step.Dequeue worker ns n)

-- the worker takes a snapshot
abbrev pub OwnSnap : Type 0
OwnSnap = (worker : ℕ) → OwnWork (λ ns. Step.Snap worker ns)

abbrev pub OtherSnap : Type 0
OtherSnap = (worker : ℕ) → OtherWork (λ ns. Step.Snap worker ns)

-- the worker submits its plan
abbrev pub OwnSubmit : Type 0
OwnSubmit = (worker : ℕ) → OwnWork (λ ns. Step.Submit worker ns)

abbrev pub OtherSubmit : Type 0
OtherSubmit = (worker : ℕ) → OtherWork (λ ns. Step.Submit worker ns)

-- the worker's plan is applied
abbrev pub OwnApply : Type 0
OwnApply = (worker : ℕ) → OwnWork (λ ns. Step.Apply worker ns)

abbrev pub OtherApply : Type 0
OtherApply = (worker : ℕ) → OtherWork (λ ns. Step.Apply worker ns)

-- the worker finishes its evaluation
abbrev pub OwnFinish : Type 0
OwnFinish = (worker : ℕ) → OwnWork (λ ns. Step.Finish worker ns)

abbrev pub OtherFinish : Type 0
OtherFinish = (worker : ℕ) → OtherWork (λ ns. Step.Finish worker ns)

-- the worker nacks its evaluation
abbrev pub OwnNack : Type 0
OwnNack = (worker : ℕ) → OwnWork (λ ns. Step.Nack worker ns)

abbrev pub OtherNack : Type 0
OtherNack = (worker : ℕ) → OtherWork (λ ns. Step.Nack worker ns)

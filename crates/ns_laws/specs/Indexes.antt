-- Laws of indexes: a namespace's index rises by one where its rows change, changed rows have the new index, and events
-- name them. Rows that stay as they are keep their indexes.
use Rattle.std.specs.Prelude.{◌≡◌, ◌≢◌, ◌⊎◌, ℕ, ◌+◌, ◌≤◌, Bool, true, false, List, [], ◌∷◌, ◌++◌, Option, Some, None}
use Rattle.std.specs.Prelude.{IsTrue, option_map}
use Rattle.std.specs.FinMap.{get, contains_key}
use Rattle.std.specs.List.{Contains}
use Rattle.ns_types.specs.declared.allocation.Allocation.{Allocation}
use Rattle.ns_types.specs.declared.evaluation.Evaluation.{Evaluation}
use Rattle.ns_types.specs.declared.event.Event.{Event}
use Rattle.ns_types.specs.declared.event.Topic.{Topic}
use Rattle.ns_types.specs.declared.job.Job.{Job}
use Rattle.ns_types.specs.declared.name.NameKind.TheVariants as NameKind
use Rattle.ns_types.specs.declared.step.Step.{Step}
use Rattle.ns_types.specs.State.Lists.{Each, last}
use Rattle.ns_types.specs.State.Name.{is_name}
use Rattle.ns_types.specs.State.Names.{Name}
use Rattle.ns_types.specs.State.Rows.{State, Tenant}
use Rattle.ns_types.specs.Steps.{Answer, Run, after, said, opening}
use Rattle.ns_types.specs.Validity.{IsValid}
use Rattle.ns_types.specs.Within.{IsGoodStep}

-- the step leads from s to s', and the namespace is there before and after it
pub record Spans (step : Step) (s s' : State) (ns : Name) (old now : Tenant) : Type 0 where
  pub answer : Answer
  pub leads : after step s ≡ said answer s'
  pub was_there : get s.world.tenants ns ≡ Some old
  pub is_there : get s'.world.tenants ns ≡ Some now

-- ---- rows that are as they were

-- the evaluation was there, and all that replies show of it was the same, its indexes apart
pub record WasEvaluation (old : Tenant) (n : ℕ) (e : Evaluation) : Type 0 where
  pub before : Evaluation
  pub was : get old.evaluations n ≡ Some before
  pub job : e.job ≡ before.job
  pub kind : e.kind ≡ before.kind
  pub priority : e.priority ≡ before.priority
  pub pool : e.pool ≡ before.pool
  pub trigger : e.trigger ≡ before.trigger
  pub status : e.status ≡ before.status
  pub previous : e.previous ≡ before.previous
  pub follower : e.follower ≡ before.follower
  pub quota : e.quota ≡ before.quota
  pub escapes : e.escapes ≡ before.escapes

-- the allocation was there, and all that replies show of it was the same, its indexes apart
pub record WasAllocation (old : Tenant) (n : ℕ) (a : Allocation) : Type 0 where
  pub before : Allocation
  pub was : get old.allocations n ≡ Some before
  pub job : a.job ≡ before.job
  pub group : a.group ≡ before.group
  pub evaluation : a.evaluation ≡ before.evaluation
  pub pool : a.pool ≡ before.pool
  pub node : a.node ≡ before.node
  pub size : a.size ≡ before.size
  pub priority : a.priority ≡ before.priority
  pub job_modify_index : a.job_modify_index ≡ before.job_modify_index
  pub desired : a.desired ≡ before.desired
  pub client : a.client ≡ before.client

-- ---- the index and the events

-- the index is as it was, and so are the events
pub record Rests (old now : Tenant) : Type 0 where
  pub index : now.index ≡ old.index
  pub events : now.events ≡ old.events

-- the topic of a changed job: a stopped job was deregistered, and any other registered
abbrev pub topic_of : Bool → Name → Topic
topic_of true id = Topic.JobDeregistered id
topic_of false id = Topic.JobRegistered id

-- among the events there is one with that topic and the namespace's index
abbrev pub HasEvent : Tenant → List Event → Topic → Type 0
HasEvent now events topic = Contains events (record { index = now.index; topic = topic })

-- The topic names a row that the step has changed, so that its modify index is the new index. A job that is named as
-- registered is not stopped, and one that is named as deregistered is stopped, or gone.
abbrev pub IsOfChange : Tenant → Tenant → Topic → Type 0
IsOfChange old now (Topic.JobRegistered id) =
    (job : Job) × (get now.jobs id ≡ Some job) × (job.stop ≡ false) × (job.modify_index ≡ now.index)
IsOfChange old now (Topic.JobDeregistered id) =
    ((job : Job) × (get now.jobs id ≡ Some job) × (job.stop ≡ true) × (job.modify_index ≡ now.index))
    ⊎ (IsTrue (contains_key old.jobs id) × (get now.jobs id ≡ None))
IsOfChange old now (Topic.EvaluationUpdated n) =
    (e : Evaluation) × (get now.evaluations n ≡ Some e) × (e.modify_index ≡ now.index)
IsOfChange old now (Topic.AllocationUpdated n) =
    (a : Allocation) × (get now.allocations n ≡ Some a) × (a.modify_index ≡ now.index)

-- Each job, evaluation and allocation that is there is as it was, or the events name it; and they name each job that is
-- gone. They name nothing else.
pub record NamesChanges (old now : Tenant) (events : List Event) : Type 0 where
  pub job : (id : Name) (job : Job) → get now.jobs id ≡ Some job →
      (get old.jobs id ≡ Some job) ⊎ HasEvent now events (topic_of job.stop id)
  pub gone : (id : Name) (job : Job) → get old.jobs id ≡ Some job → get now.jobs id ≡ None →
      HasEvent now events (Topic.JobDeregistered id)
  pub evaluation : (n : ℕ) (e : Evaluation) → get now.evaluations n ≡ Some e →
      WasEvaluation old n e ⊎ HasEvent now events (Topic.EvaluationUpdated n)
  pub allocation : (n : ℕ) (a : Allocation) → get now.allocations n ≡ Some a →
      WasAllocation old n a ⊎ HasEvent now events (Topic.AllocationUpdated n)
  pub no_other : Each (λ event. IsOfChange old now event.topic) events

-- The index is the next one. There are new events, each with that index, and they name exactly the changed rows. They
-- follow the old ones, and the last hundred of all are kept.
pub record Rises (old now : Tenant) : Type 0 where
  pub index : now.index ≡ old.index + 1
  pub new : List Event
  pub some : new ≢ []
  pub dated : Each (λ event. event.index ≡ now.index) new
  pub changes : NamesChanges old now new
  pub events : now.events ≡ last 100 (old.events ++ new)

-- Whatever step is made, the index of a namespace stays, and its events stay. Or the index rises by one, and new events
-- with that index name exactly the changed jobs, evaluations and allocations. They follow the old ones, and the last
-- hundred of all are kept.
abbrev pub IndexRisesByOne : Type 0
IndexRisesByOne = (step : Step) (s s' : State) (ns : Name) (old now : Tenant) → Spans step s s' ns old now →
    Rests old now ⊎ Rises old now

-- no event has a lower index than one before it
abbrev pub Ascends : List Event → Type 0
Ascends [] = Unit {0}
Ascends (event ∷ events) = Each (λ later. event.index ≤ later.index) events × Ascends events

-- From a valid state, a step keeps the events of a namespace in the order of their indexes.
abbrev pub EventsStayInOrder : Type 0
EventsStayInOrder = (step : Step) (s s' : State) (ns : Name) (old now : Tenant) → IsValid s →
    Spans step s s' ns old now → Ascends old.events → Ascends now.events

-- In every state that the server reaches from its opening state, by steps within the limits, the events of each
-- namespace are in the order of their indexes.
abbrev pub EventsAreInOrder : Type 0
EventsAreInOrder = (secret : Name) (s : State) (steps : List Step) (answers : List Answer) →
    IsTrue (is_name NameKind.Secret secret) → Each IsGoodStep steps → Run (opening secret) steps answers s →
    (ns : Name) (t : Tenant) → get s.world.tenants ns ≡ Some t → Ascends t.events

-- no index or number has been given in the namespace, and it has no jobs, evaluations, allocations and events
pub record HasNothing (t : Tenant) : Type 0 where
  pub index : t.index ≡ 0
  pub evaluation_number : t.evaluation_number ≡ 0
  pub allocation_number : t.allocation_number ≡ 0
  pub events : t.events ≡ []
  pub no_job : (id : Name) → get t.jobs id ≡ None
  pub no_evaluation : (n : ℕ) → get t.evaluations n ≡ None
  pub no_allocation : (n : ℕ) → get t.allocations n ≡ None

-- A namespace that is there after a step and was not there before it has nothing yet: no jobs, evaluations, allocations
-- and events. Its index and its numbers begin at 0.
abbrev pub NewNamespacesHaveNothing : Type 0
NewNamespacesHaveNothing = (step : Step) (s s' : State) (answer : Answer) (ns : Name) (now : Tenant) →
    get s.world.tenants ns ≡ None → after step s ≡ said answer s' → get s'.world.tenants ns ≡ Some now → HasNothing now

-- ---- the rows

-- a row that was there keeps the create index that it had, and a new one has the new index
abbrev pub KeepsCreation : Option ℕ → ℕ → ℕ → Type 0
KeepsCreation None index create_index = create_index ≡ index
KeepsCreation (Some former) index create_index = create_index ≡ former

-- The step raised the namespace's index, and the row was modified at the new index. If the row is new, it was created
-- at the new index too, and if not, it keeps its create index.
pub record IsStamped (old now : Tenant) (former : Option ℕ) (create_index modify_index : ℕ) : Type 0 where
  pub rises : now.index ≡ old.index + 1
  pub modified : modify_index ≡ now.index
  pub created : KeepsCreation former now.index create_index

-- Each job that is there after a step is exactly as it was before, or the namespace's index has risen and is the job's
-- modify index, and if the job is new also its create index. A job that was there keeps its create index.
abbrev pub ChangedJobsHaveIndex : Type 0
ChangedJobsHaveIndex = (step : Step) (s s' : State) (ns : Name) (old now : Tenant) (id : Name) (job : Job) →
    Spans step s s' ns old now → get now.jobs id ≡ Some job →
    (get old.jobs id ≡ Some job)
    ⊎ IsStamped old now (option_map (λ j. j.create_index) (get old.jobs id)) job.create_index job.modify_index

-- Where a job is gone after a step, the namespace's index has risen.
abbrev pub GoneJobsRaiseIndex : Type 0
GoneJobsRaiseIndex = (step : Step) (s s' : State) (ns : Name) (old now : Tenant) (id : Name) (job : Job) →
    Spans step s s' ns old now → get old.jobs id ≡ Some job → get now.jobs id ≡ None → now.index ≡ old.index + 1

-- Take an evaluation that is there after a step. Either all that replies show of it, its indexes apart, was the same
-- before, or the namespace's index has risen and is the evaluation's modify index. If it is new, that is its create
-- index too, and if not, it keeps its create index.
abbrev pub ChangedEvaluationsHaveIndex : Type 0
ChangedEvaluationsHaveIndex = (step : Step) (s s' : State) (ns : Name) (old now : Tenant) (n : ℕ) (e : Evaluation) →
    Spans step s s' ns old now → get now.evaluations n ≡ Some e →
    WasEvaluation old n e
    ⊎ IsStamped old now (option_map (λ x. x.create_index) (get old.evaluations n)) e.create_index e.modify_index

-- Take an allocation that is there after a step. Either all that replies show of it, its indexes apart, was the same
-- before, or the namespace's index has risen and is the allocation's modify index. If it is new, that is its create
-- index too, and if not, it keeps its create index.
abbrev pub ChangedAllocationsHaveIndex : Type 0
ChangedAllocationsHaveIndex = (step : Step) (s s' : State) (ns : Name) (old now : Tenant) (n : ℕ) (a : Allocation) →
    Spans step s s' ns old now → get now.allocations n ≡ Some a →
    WasAllocation old n a
    ⊎ IsStamped old now (option_map (λ x. x.create_index) (get old.allocations n)) a.create_index a.modify_index

-- ---- rows that a step leaves as they are

-- Take a job that is there before and after a step, with the same document and version, and stopped after it exactly if
-- it was before. It keeps both its indexes.
abbrev pub UnchangedJobsKeepIndexes : Type 0
UnchangedJobsKeepIndexes = (step : Step) (s s' : State) (ns : Name) (old now : Tenant) (id : Name) (before job : Job) →
    Spans step s s' ns old now → get old.jobs id ≡ Some before → get now.jobs id ≡ Some job →
    job.document ≡ before.document → job.version ≡ before.version → job.stop ≡ before.stop →
    (job.create_index ≡ before.create_index) × (job.modify_index ≡ before.modify_index)

-- From a valid state, take an evaluation that is there after a step. If all that replies show of it, its indexes apart,
-- was the same before, it keeps both its indexes.
abbrev pub UnchangedEvaluationsKeepIndexes : Type 0
UnchangedEvaluationsKeepIndexes = (step : Step) (s s' : State) (ns : Name) (old now : Tenant) (n : ℕ)
    (e : Evaluation) → IsValid s → Spans step s s' ns old now → get now.evaluations n ≡ Some e →
    (was : WasEvaluation old n e) →
    (e.create_index ≡ was.before.create_index) × (e.modify_index ≡ was.before.modify_index)

-- From a valid state, take an allocation that is there after a step. If all that replies show of it, its indexes apart,
-- was the same before, it keeps both its indexes.
abbrev pub UnchangedAllocationsKeepIndexes : Type 0
UnchangedAllocationsKeepIndexes = (step : Step) (s s' : State) (ns : Name) (old now : Tenant) (n : ℕ)
    (a : Allocation) → IsValid s → Spans step s s' ns old now → get now.allocations n ≡ Some a →
    (was : WasAllocation old n a) →
    (a.create_index ≡ was.before.create_index) × (a.modify_index ≡ was.before.modify_index)

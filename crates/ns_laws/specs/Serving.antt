-- Laws of the evaluation broker: which evaluations are ready, with a worker or blocked, and what becomes of them.
use Rattle.std.specs.Prelude.{◌≡◌, ◌⊎◌, ℕ, true, false, List, ◌∷◌, ◌++◌, Some, None, Ok, IsTrue, IsFalse}
use Rattle.std.specs.FinMap.{get}
use Rattle.ns_types.specs.declared.allocation.Allocation.{Allocation}
use Rattle.ns_types.specs.declared.evaluation.Evaluation.{Evaluation}
use Rattle.ns_types.specs.declared.evaluation.Status.{Status}
use Rattle.ns_types.specs.declared.name.NameKind.TheVariants as NameKind
use Rattle.ns_types.specs.declared.reply.Reply.{Reply}
use Rattle.ns_types.specs.declared.step.Step.{Step}
use Rattle.ns_types.specs.State.Lists.{Each}
use Rattle.ns_types.specs.State.Name.{is_name}
use Rattle.ns_types.specs.State.Names.{Key, Name, has_key}
use Rattle.ns_types.specs.State.Rows.{State, World, allocation_at, evaluation_at, is_open}
use Rattle.ns_types.specs.Steps.{Answer, Run, after, opening, said}
use Rattle.ns_types.specs.Validity.{IsValid}
use Rattle.ns_types.specs.Within.{IsGoodStep}
use Rattle.ns_types.specs.Working.Looks.{worker_at}
use Rattle.ns_types.specs.Working.Worker.{Worker}
use Rattle.ns_laws.specs.Ending.{IsDeletionOf, IsSameAllocation}

-- ---- the lists and the workers of a valid state

-- the evaluation is in the list of ready ones, or a worker has it
pub data IsUnderWay (w : World) (ns : Name) (n : ℕ) : Type 0 where
  is_ready : IsTrue (has_key w.ready (ns, n)) → IsUnderWay w ns n
  is_with_worker : (number : ℕ) (worker : Worker) → worker_at w number ns ≡ Some worker → worker.evaluation ≡ n →
      IsUnderWay w ns n

-- In a valid state, of each job of a namespace at most one evaluation is ready or with a worker.
abbrev pub OneUnderWay : Type 0
OneUnderWay = (s : State) (ns : Name) (m n : ℕ) (d e : Evaluation) → IsValid s → IsUnderWay s.world ns m →
    IsUnderWay s.world ns n → evaluation_at s.world (ns, m) ≡ Some d → evaluation_at s.world (ns, n) ≡ Some e →
    d.job ≡ e.job → m ≡ n

-- the worker's evaluation is there and pending, it is neither ready nor blocked, and no other worker has one of its
-- job
pub record HasItsOwn (w : World) (ns : Name) (number : ℕ) (worker : Worker) : Type 0 where
  pub row : Evaluation
  pub is_row : evaluation_at w (ns, worker.evaluation) ≡ Some row
  pub is_pending : row.status ≡ Status.Pending
  pub not_ready : IsFalse (has_key w.ready (ns, worker.evaluation))
  pub not_blocked : IsFalse (has_key w.blocked (ns, worker.evaluation))
  pub no_other : (m : ℕ) (other : Worker) (e : Evaluation) → worker_at w m ns ≡ Some other →
      evaluation_at w (ns, other.evaluation) ≡ Some e → e.job ≡ row.job → m ≡ number

-- In a valid state, a worker's evaluation is pending. It is not in the list of ready ones, and not in that of blocked
-- ones. No other worker has an evaluation of the same job of the namespace.
abbrev pub WorkersHaveTheirOwn : Type 0
WorkersHaveTheirOwn = (s : State) (ns : Name) (number : ℕ) (worker : Worker) → IsValid s →
    worker_at s.world number ns ≡ Some worker → HasItsOwn s.world ns number worker

-- no key is in the list twice
abbrev pub HasNoneTwice : List Key → Type 0
HasNoneTwice keys = (before later : List Key) (key : Key) → keys ≡ before ++ key ∷ later → IsFalse (has_key later key)

-- the evaluation is there, and has that status
abbrev pub HasEvaluationStatus : World → Status → Key → Type 0
HasEvaluationStatus w status key = (row : Evaluation) × (evaluation_at w key ≡ Some row) × (row.status ≡ status)

-- The ready evaluations are pending. The blocked list has the evaluations with the status `blocked` and no others. No
-- evaluation is in both lists, or twice in one of them.
pub record HasTrueLists (w : World) : Type 0 where
  pub ready : (key : Key) → IsTrue (has_key w.ready key) → HasEvaluationStatus w Status.Pending key
  pub blocked : (key : Key) → IsTrue (has_key w.blocked key) → HasEvaluationStatus w Status.Blocked key
  pub all_blocked : (key : Key) → HasEvaluationStatus w Status.Blocked key → IsTrue (has_key w.blocked key)
  pub in_one : (key : Key) → IsTrue (has_key w.ready key) → IsFalse (has_key w.blocked key)
  pub ready_once : HasNoneTwice w.ready
  pub blocked_once : HasNoneTwice w.blocked

-- In a valid state, the ready evaluations are pending. The blocked list has the evaluations with the status `blocked`
-- and no others. No evaluation is in both lists, or twice in one of them.
abbrev pub ListsAreTrue : Type 0
ListsAreTrue = (s : State) → IsValid s → HasTrueLists s.world

-- In a valid state, at most one evaluation of each job of a namespace is blocked.
abbrev pub OneIsBlocked : Type 0
OneIsBlocked = (s : State) (ns : Name) (m n : ℕ) (d e : Evaluation) → IsValid s →
    evaluation_at s.world (ns, m) ≡ Some d → evaluation_at s.world (ns, n) ≡ Some e →
    d.status ≡ Status.Blocked → e.status ≡ Status.Blocked → d.job ≡ e.job → m ≡ n

-- ---- no pending evaluation is forgotten

-- one evaluation of the job is in the list of ready ones, or a worker has it
pub record HasOneUnderWay (w : World) (ns job : Name) : Type 0 where
  pub number : ℕ
  pub row : Evaluation
  pub is_row : evaluation_at w (ns, number) ≡ Some row
  pub of_job : row.job ≡ job
  pub under_way : IsUnderWay w ns number

-- each pending evaluation is ready or with a worker, or waits behind one of its job that is
abbrev pub ForgetsNone : World → Type 0
ForgetsNone w = (ns : Name) (n : ℕ) (e : Evaluation) → evaluation_at w (ns, n) ≡ Some e → e.status ≡ Status.Pending →
    HasOneUnderWay w ns e.job

-- In every state that the server reaches from its opening state, by steps within the limits: where a job has a pending
-- evaluation, one of its evaluations is ready or with a worker. So no pending evaluation is forgotten.
abbrev pub NoneIsForgotten : Type 0
NoneIsForgotten = (secret : Name) (s : State) (steps : List Step) (answers : List Answer) →
    IsTrue (is_name NameKind.Secret secret) → Each IsGoodStep steps → Run (opening secret) steps answers s →
    ForgetsNone s.world

-- ---- what becomes of an evaluation

-- all is the same but the status, the follower, the count of nacks and the indexes
pub record IsSameEvaluation (a b : Evaluation) : Type 0 where
  pub job : b.job ≡ a.job
  pub kind : b.kind ≡ a.kind
  pub priority : b.priority ≡ a.priority
  pub pool : b.pool ≡ a.pool
  pub trigger : b.trigger ≡ a.trigger
  pub previous : b.previous ≡ a.previous
  pub quota : b.quota ≡ a.quota
  pub escapes : b.escapes ≡ a.escapes
  pub infeasible : b.infeasible ≡ a.infeasible

-- How the open evaluation a becomes b, which has ended: its worker finishes it; it is blocked, and a worker that has
-- another evaluation of its job finishes that one; or its worker gives it back for the third time.
pub data EvaluationEnds (w : World) (step : Step) (key : Key) (a b : Evaluation) : Type 0 where
  finished : (number : ℕ) (worker : Worker) → step ≡ Step.Finish number key.0 →
      worker_at w number key.0 ≡ Some worker → worker.evaluation ≡ key.1 →
      (b.status ≡ Status.Complete) ⊎ (b.status ≡ Status.Failed) → EvaluationEnds w step key a b
  canceled : (number : ℕ) (worker : Worker) (e : Evaluation) → step ≡ Step.Finish number key.0 →
      worker_at w number key.0 ≡ Some worker → evaluation_at w (key.0, worker.evaluation) ≡ Some e → e.job ≡ a.job →
      a.status ≡ Status.Blocked → b.status ≡ Status.Canceled → EvaluationEnds w step key a b
  given_up : (number : ℕ) (worker : Worker) → step ≡ Step.Nack number key.0 →
      worker_at w number key.0 ≡ Some worker → worker.evaluation ≡ key.1 → a.nacks ≡ 2 →
      b.status ≡ Status.Failed → EvaluationEnds w step key a b

-- its status stays, or it was blocked and is pending now, or it was open and has ended
pub data NextStatus (w : World) (step : Step) (key : Key) (a b : Evaluation) : Type 0 where
  stays : b.status ≡ a.status → NextStatus w step key a b
  wakes : a.status ≡ Status.Blocked → b.status ≡ Status.Pending → NextStatus w step key a b
  ends : is_open a.status ≡ true → EvaluationEnds w step key a b → NextStatus w step key a b

-- the evaluation a is there after the step, as b
pub record GoesOn (w x : World) (step : Step) (key : Key) (a : Evaluation) : Type 0 where
  pub row : Evaluation
  pub is_row : evaluation_at x key ≡ Some row
  pub same : IsSameEvaluation a row
  pub status : NextStatus w step key a row

-- From a valid state, an evaluation goes on in any step, or it has ended and its namespace is deleted. It keeps its
-- job, type, priority and pool, its trigger, the evaluation that it follows, and what it was blocked for. Its status
-- stays, or it was blocked and is pending now, or it was open and has ended: its worker finishes it or gives it back
-- for the third time, or it is blocked and a worker finishes another evaluation of its job.
abbrev pub EvaluationGoesOn : Type 0
EvaluationGoesOn = (s s' : State) (step : Step) (answer : Answer) (key : Key) (a : Evaluation) → IsValid s →
    after step s ≡ said answer s' → evaluation_at s.world key ≡ Some a →
    GoesOn s.world s'.world step key a
    ⊎ ((is_open a.status ≡ false) × (get s'.world.tenants key.0 ≡ None) × IsDeletionOf step key.0)

-- From a valid state, no step makes an ended evaluation open again: its status stays as it is.
abbrev pub EndedEvaluationStays : Type 0
EndedEvaluationStays = (s s' : State) (step : Step) (answer : Answer) (key : Key) (a b : Evaluation) → IsValid s →
    after step s ≡ said answer s' → evaluation_at s.world key ≡ Some a → is_open a.status ≡ false →
    evaluation_at s'.world key ≡ Some b → b.status ≡ a.status

-- From a valid state, a worker's `Finish` wakes no evaluation: each one that was in the blocked list is in it still,
-- or it is canceled.
abbrev pub FinishWakesNone : Type 0
FinishWakesNone = (s t : State) (number : ℕ) (ns : Name) (reply : Reply) (key : Key) → IsValid s →
    after (Step.Finish number ns) s ≡ said (Ok reply) t → IsTrue (has_key s.world.blocked key) →
    IsTrue (has_key t.world.blocked key) ⊎ HasEvaluationStatus t.world Status.Canceled key

-- ---- numbers

-- each evaluation and each allocation of the namespace is there still, under its number
pub record KeepsNumbers (w x : World) (ns : Name) : Type 0 where
  pub evaluation : (n : ℕ) (a : Evaluation) → evaluation_at w (ns, n) ≡ Some a →
      (b : Evaluation) × (evaluation_at x (ns, n) ≡ Some b) × IsSameEvaluation a b
  pub allocation : (n : ℕ) (a : Allocation) → allocation_at w (ns, n) ≡ Some a →
      (b : Allocation) × (allocation_at x (ns, n) ≡ Some b) × IsSameAllocation a b

-- Over any run from a valid state, by steps within the limits of which none deletes the namespace, the number of an
-- evaluation or an allocation is never given again: the evaluation or the allocation is there still, and is the same
-- one.
abbrev pub NumbersAreGivenOnce : Type 0
NumbersAreGivenOnce = (s s' : State) (steps : List Step) (answers : List Answer) (ns : Name) → IsValid s →
    Each IsGoodStep steps → Each (λ step. IsDeletionOf step ns → ⊥) steps → Run s steps answers s' →
    KeepsNumbers s.world s'.world ns

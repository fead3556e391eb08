-- What a finish does to the namespace and to the world.
use Rattle.std.specs.Prelude.{ℕ, Bool, true, false}
use Rattle.ns_types.specs.declared.evaluation.Evaluation.{Evaluation}
use Rattle.ns_types.specs.declared.evaluation.Status.{Status}
use Rattle.ns_types.specs.Settling.Making.{change_tenant, with_evaluation, with_status}
use Rattle.ns_types.specs.State.Names.{Key, Name}
use Rattle.ns_types.specs.State.Rows.{World, Tenant, is_blocked}
use Rattle.ns_types.specs.Working.Work.{cancel_blocked, tied_to, without_worker}
use Rattle.ns_types.specs.Working.Queue.{promote}
use Rattle.ns_change.specs.Changed.{unlist_blocked, with_blocked_key}
use Rattle.ns_followers.specs.declared.ending.EndingEvaluation.{EndingEvaluation}

-- an evaluation that ends: the number of its worker, its key, its job, and the status that it gets
pub record Ended : Type 0 where
  pub worker : ℕ
  pub key : Key
  pub job : Name
  pub status : Status

abbrev pub ended_of : EndingEvaluation → Ended
ended_of e = record { worker = e.worker; key = e.key.now; job = e.job.now; status = e.status }

-- the evaluation has its last status, the job's blocked evaluation is canceled, and the worker is idle
abbrev pub ended_as : Ended → Tenant → Tenant
ended_as e t = cancel_blocked e.job (with_status e.key.1 e.status (without_worker e.worker t))

-- the world in which the evaluation has ended so, and the job's blocked evaluation is no longer listed
abbrev pub ended_in : Ended → World → World
ended_in e w = change_tenant e.key.0 (ended_as e) (unlist_blocked e.key.0 e.job w)

-- a new evaluation under that number, which the evaluation n that ended names
abbrev pub followed_as : ℕ → ℕ → Evaluation → Tenant → Tenant
followed_as n number row t = with_evaluation row (tied_to n number t)

-- a blocked evaluation is listed
abbrev pub listed_if : Bool → Key → World → World
listed_if true key w = with_blocked_key key w
listed_if false key w = w

-- the evaluation ends without a follower, and the job's first waiting evaluation is ready
abbrev pub ended_alone : Ended → World → World
ended_alone e w = promote e.key.0 e.job (ended_in e w)

-- the evaluation ends with that follower, and the job's first waiting evaluation is ready
abbrev pub ended_followed : Ended → ℕ → Evaluation → World → World
ended_followed e follower row w = promote e.key.0 e.job (listed_if (is_blocked row.status) (e.key.0, follower)
    (change_tenant e.key.0 (followed_as e.key.1 follower row) (ended_in e w)))

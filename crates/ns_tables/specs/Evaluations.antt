-- A namespace's evaluations by number, and their numbers by job: of all, of the pending ones and of the blocked ones.
use Rattle.std.specs.Prelude.{Option}
use Rattle.std.specs.FinMap.{entries}
use Rattle.keyed.specs.Over.{HasRoomFor}
use Rattle.keyed.specs.declared.key_set.KeySet.{KeySet}
use Rattle.ns_types.specs.State.Lists.{Each}
use Rattle.ns_types.specs.State.Names.{ByNumber}
use Rattle.ns_types.specs.declared.evaluation.Evaluation.{Evaluation}
use Rattle.ns_types.specs.State.Rows.{is_blocked, is_pending}
use Rattle.ns_tables.specs.Filing.{HasRoomAt, IsIndexOf, evaluation_job, job_where}

pub record EvaluationTable : Type 0 where
  pub slots : ByNumber (Option Evaluation)
  -- the numbers of each job's evaluations, as keys of a job and a number
  pub jobs : KeySet
  pub pending : KeySet
  pub blocked : KeySet

-- room for each changed row, and for its number among those of its job
pub record HasEvaluationRoom (changes : ByNumber (Option Evaluation)) (t : EvaluationTable) : Type 0 where
  pub slots : HasRoomFor changes t.slots
  pub jobs : Each (HasRoomAt evaluation_job t.jobs) (entries changes)
  pub pending : Each (HasRoomAt (job_where is_pending) t.pending) (entries changes)
  pub blocked : Each (HasRoomAt (job_where is_blocked) t.blocked) (entries changes)

-- the numbers of all rows, of the pending ones and of the blocked ones are filed by job
pub record AreFiled (all waiting stuck : KeySet) (rows : ByNumber Evaluation) : Type 0 where
  pub jobs : IsIndexOf evaluation_job all rows
  pub pending : IsIndexOf (job_where is_pending) waiting rows
  pub blocked : IsIndexOf (job_where is_blocked) stuck rows

-- The threads that share a server: which of them a call wakes, and which entered and left.
use Rattle.std.specs.Prelude.{ℕ, ◌+◌, ◌-◌, ◌%◌, ◌^◌, ◌==◌, Bool, true, false, ◌&&◌, ◌||◌, if◌then◌else◌, is_some, length, min}
use Rattle.std.specs.Prelude.{Option, Some, None, nat_le, nat_lt}
use Rattle.ns_driver.specs.declared.worker_step.WorkerStep.{WorkerStep}
use Rattle.ns_work_log.specs.Logs.{History}
use Rattle.ns_types.specs.Working.Looks.{served_ready}
use Rattle.ns_work_lock.specs.declared.changes.Notified.{Notified}
use Rattle.ns_work_lock.specs.declared.changes.Role.{Role}
use Rattle.ns_work_lock.specs.declared.changes.Stage.{Stage}
use Rattle.ns_work_lock.specs.declared.changes.Wakes.{Wakes}

-- ---- changes that others wait for

-- the threads that a worker's step wakes
abbrev pub wakes_of : WorkerStep → Wakes
wakes_of (WorkerStep.Dequeue evaluation) = Wakes.WhereServed
wakes_of (WorkerStep.Submit planned) = Wakes.Planned
wakes_of WorkerStep.Apply = Wakes.Applied
wakes_of (WorkerStep.Finish planned) = Wakes.WhereServedOrClosed
wakes_of WorkerStep.Nack = Wakes.WhereServedOrClosed

-- whether a call offers work to an idle worker
abbrev pub offers_work : Wakes → Bool
offers_work Wakes.WhereServed = true
offers_work Wakes.WhereServedOrClosed = true
offers_work Wakes.Applied = true
offers_work _ = false

-- whether a plan was applied, for which its worker waits
abbrev pub is_applied : Wakes → Bool
is_applied Wakes.Applied = true
is_applied _ = false

-- whether a plan was handed in, for which the applier waits
abbrev pub is_planned : Wakes → Bool
is_planned Wakes.Planned = true
is_planned _ = false

-- whether all waiting threads are woken; workers end once they are idle and the server is closed
abbrev pub is_of_all : Wakes → Bool → Bool
is_of_all Wakes.All is_closed = true
is_of_all Wakes.WhereServedOrClosed is_closed = is_closed
is_of_all _ is_closed = false

-- whether the log has exactly as many entries as it is rotated at, which it has once as it grows
abbrev pub is_due : Option ℕ → ℕ → Bool
is_due (Some entries) len = len == entries
is_due None len = false

-- the threads that are woken: an idle worker only if there is a next evaluation, and the applier also to rotate the log
abbrev pub notified : Wakes → Option ℕ → Bool → History → Notified
notified wakes rotates_at is_closed h = record {
  idle = offers_work wakes && is_some (served_ready h.state.world);
  planners = is_applied wakes;
  applier = is_planned wakes || is_due rotates_at (length h.log);
  all = is_of_all wakes is_closed;
}

abbrev pub is_any : Notified → Bool
is_any notified = notified.idle || notified.planners || notified.applier || notified.all

-- the number of changes, one more if a thread is woken; it wraps
abbrev pub changes_after : Bool → ℕ → ℕ
changes_after wakes changes = if wakes then (changes + 1) % 2 ^ 64 else changes

-- ---- the bytes of text of the log's entries, as far as they were counted

-- the bytes and `more` more; the number stops at the greatest `u64`
abbrev pub bytes_after : ℕ → ℕ → ℕ
bytes_after bytes more = min (bytes + more) (2 ^ 64 - 1)

-- whether the bytes pass the limit from `old` to `new`
abbrev pub passes : ℕ → ℕ → ℕ → Bool
passes limit old new = nat_le old limit && nat_lt limit new

-- ---- the threads that entered and left; the number of workers wraps

abbrev pub workers_entered : Role → ℕ → ℕ
workers_entered Role.Worker workers = (workers + 1) % 2 ^ 64
workers_entered Role.Applier workers = workers

abbrev pub stage_entered : Role → Stage → Stage
stage_entered Role.Worker stage = stage
stage_entered Role.Applier stage = Stage.Running

abbrev pub workers_left : Role → ℕ → ℕ
workers_left Role.Worker workers = (workers + (2 ^ 64 - 1)) % 2 ^ 64
workers_left Role.Applier workers = workers

abbrev pub stage_left : Role → Stage → Stage
stage_left Role.Worker stage = stage
stage_left Role.Applier stage = Stage.Left

abbrev pub is_left : Stage → Bool
is_left Stage.Left = true
is_left _ = false

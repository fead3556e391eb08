-- When workers and the applier go on, and when they end.
use Rattle.std.specs.Prelude.{Bool, ◌&&◌, nat_eq, Ok, Err}
use Rattle.ns_types.specs.declared.refusal.Refusal.{Refusal}
use Rattle.ns_types.specs.Steps.{Answer}
use Rattle.ns_work_lock.specs.declared.changes.Moment.{Moment}
use Rattle.ns_workers.specs.declared.halt.Halt.{Halt}
use Rattle.ns_workers.specs.declared.applying.Course.{Course}

-- ---- a worker

-- why a worker's turn made no step, by the refusal
abbrev pub halt_of : Refusal → Halt
halt_of Refusal.NotEnabled = Halt.Late
halt_of Refusal.Memory = Halt.Memory
halt_of Refusal.LogFull = Halt.Full
halt_of Refusal.Foreign = Halt.Leaves
halt_of _ = Halt.Ends

-- ---- the applier

-- what the applier does after an Apply with this answer
abbrev pub course_of : Answer → Course
course_of (Ok reply) = Course.GoesOn
course_of (Err Refusal.NotEnabled) = Course.GoesOn
course_of (Err Refusal.Memory) = Course.Pauses
course_of (Err Refusal.LogFull) = Course.Full
course_of (Err _) = Course.Ends

-- no plan comes any more: the server is closed, and no worker is left
abbrev pub is_over : Moment → Bool
is_over seen = seen.is_closed && nat_eq seen.workers 0

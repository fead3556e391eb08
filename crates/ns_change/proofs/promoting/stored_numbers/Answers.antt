use Rattle.std.proofs.Common.{◌≡◌, refl, false, Option, Some, None}
use Rattle.keyed.specs.Table.{row_at}
use Rattle.ns_change.specs.Waiting.{stands}
use Rattle.ns_types.specs.declared.evaluation.Evaluation.{Evaluation}
use Rattle.ns_types.specs.declared.evaluation.Status.TheVariants as Status
use Rattle.ns_tables.specs.Filing.{job_where, stands_under}
use Rattle.ns_change.proofs.promoting.stored_numbers.Goals as goal

pub returns-in-Pending : goal.returns-in-Pending
returns-in-Pending c = rw c.in-Pending.is c.pending_of.ensures

pub returns-in-Blocked : goal.returns-in-Blocked
returns-in-Blocked c = rw c.in-Blocked.is c.blocked_of.ensures

use Rattle.std.proofs.Common.{length}
use Rattle.ns_equality.proofs.documents.+same_tasks.Given as goal

abbrev pub decreases-same_tasks : goal.decreases-same_tasks
decreases-same_tasks l = length l.a.now

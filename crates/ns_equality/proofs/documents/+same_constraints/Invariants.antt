use Rattle.std.proofs.Common.{length}
use Rattle.ns_equality.proofs.documents.+same_constraints.Given as goal

abbrev pub decreases-same_constraints : goal.decreases-same_constraints
decreases-same_constraints l = length l.a.now

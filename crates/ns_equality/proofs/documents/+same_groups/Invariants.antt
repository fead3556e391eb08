use Rattle.std.proofs.Common.{length}
use Rattle.ns_equality.proofs.documents.+same_groups.Given as goal

abbrev pub decreases-same_groups : goal.decreases-same_groups
decreases-same_groups l = length l.a.now

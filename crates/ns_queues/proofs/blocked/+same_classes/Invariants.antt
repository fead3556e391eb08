use Rattle.std.proofs.Common.{length}
use Rattle.ns_queues.proofs.blocked.+same_classes.Given as goal

abbrev pub decreases-same_classes : goal.decreases-same_classes
decreases-same_classes l = length l.a.now

use Rattle.std.proofs.Common.{length}
use Rattle.ns_release.proofs.fitting.+are_shared.Given as goal

abbrev pub decreases-are_shared : goal.decreases-are_shared
decreases-are_shared l = length l.attributes.now

use Rattle.std.proofs.Common.{length}
use Rattle.ns_equality.proofs.offers.+same_attributes.Given as goal

abbrev pub decreases-same_attributes : goal.decreases-same_attributes
decreases-same_attributes l = length l.a.now

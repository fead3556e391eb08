use Rattle.std.proofs.Common.{length}
use Rattle.ns_followers.proofs.shortage.order.+compare_attributes.Given as goal

abbrev pub decreases-compare_attributes : goal.decreases-compare_attributes
decreases-compare_attributes l = length l.a.now

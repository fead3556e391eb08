use Rattle.ns_log.proofs.Leading.{Leads}
use Rattle.ns_log.proofs.segments.following.follow.Given as goal

abbrev pub invariant-loop-segment : goal.invariant-loop-segment
invariant-loop-segment l = Leads l.segments l.segment-index l.place

use Rattle.std.proofs.Common.{drop}
use Rattle.ns_copies.proofs.Indexed.{IsIndexing}
use Rattle.ns_copies.proofs.indexing.live_of.Given as goal

abbrev pub invariant-loop-slot : goal.invariant-loop-slot
invariant-loop-slot l = IsIndexing l.live (drop l.slot-index l.slot-items) l.slot-items

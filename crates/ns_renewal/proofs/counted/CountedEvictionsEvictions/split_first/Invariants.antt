use Rattle.std.proofs.Common.{◌≡◌, length}
use Rattle.ns_renewal.specs.Counted.{left_of}
use Rattle.ns_renewal.proofs.counted.CountedEvictionsEvictions.split_first.Given as goal

abbrev pub invariant-loop-placement : goal.invariant-loop-placement
invariant-loop-placement g l = left_of (g.C.CountsEviction.passes l.fn.self.of) l.placements l.evictions
    ≡ left_of (g.C.CountsEviction.passes l.fn.self.of) l.fn.self.placements.now l.fn.self.evictions.now

abbrev pub decreases-loop-placement : goal.decreases-loop-placement
decreases-loop-placement g l = length l.placements

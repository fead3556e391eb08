use Rattle.std.proofs.Common.{take}
use Rattle.ns_plan.specs.Gathered.{IsPart}
use Rattle.ns_plan.proofs.gathering.part_of.Given as goal

abbrev pub invariant-loop-i : goal.invariant-loop-i
invariant-loop-i l = IsPart l.node (take l.i l.placements) l.part

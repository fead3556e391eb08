use Rattle.std.proofs.Common.{◌≡◌, length, take}
use Rattle.ns_plan.specs.Gathered.{AreParts}
use Rattle.ns_plan.proofs.gathering.parts_of.Given as goal

abbrev pub invariant-loop-i : goal.invariant-loop-i
invariant-loop-i l = (length l.parts ≡ 1000) × AreParts (take l.i l.plan.placing.placements) l.parts

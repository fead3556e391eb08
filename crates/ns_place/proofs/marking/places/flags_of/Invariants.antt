use Rattle.std.proofs.Common.{take}
use Rattle.ns_place.specs.Marks.{AreFlags}
use Rattle.ns_place.proofs.marking.places.flags_of.Given as goal

abbrev pub invariant-loop-place : goal.invariant-loop-place
invariant-loop-place l = AreFlags l.flags (take l.place-index l.places)

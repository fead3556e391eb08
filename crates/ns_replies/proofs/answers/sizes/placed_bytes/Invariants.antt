use Rattle.std.proofs.Common.{◌≡◌, take}
use Rattle.std.specs.Prelude.{sum_by}
use Rattle.ns_replies.specs.Rooms.{placement_bytes}
use Rattle.ns_replies.proofs.answers.sizes.placed_bytes.Given as goal

abbrev pub invariant-loop-placement : goal.invariant-loop-placement
invariant-loop-placement l = l.bytes ≡ sum_by (placement_bytes l.kept) (take l.placement-index l.placements)

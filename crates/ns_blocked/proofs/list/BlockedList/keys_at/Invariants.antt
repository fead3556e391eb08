use Rattle.std.proofs.Common.{◌≡◌, ◌++◌, length}
use Rattle.ns_blocked.proofs.Places.{keys_at}
use Rattle.ns_blocked.proofs.list.BlockedList.keys_at.Given as goal

abbrev pub invariant-loop-place : goal.invariant-loop-place
invariant-loop-place l = l.keys.items ++ keys_at l.fn.self l.places.keys ≡ keys_at l.fn.self l.fn.places.keys

abbrev pub decreases-loop-place : goal.decreases-loop-place
decreases-loop-place l = length l.places.keys

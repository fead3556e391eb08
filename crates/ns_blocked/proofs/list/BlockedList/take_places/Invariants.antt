use Rattle.std.proofs.Common.{◌+◌, ◌≤◌, length, vec_capacity, vec_len}
use Rattle.ns_blocked.proofs.Places.{IsTaking}
use Rattle.ns_blocked.proofs.list.BlockedList.take_places.Given as goal

abbrev pub invariant-loop-place : goal.invariant-loop-place
invariant-loop-place l = record {
  taking : IsTaking l.fn.self l.self l.fn.places.keys l.places.keys l.keys.items;
  room : length l.places.keys + vec_len l.keys ≤ vec_capacity l.keys;
}

abbrev pub decreases-loop-place : goal.decreases-loop-place
decreases-loop-place l = length l.places.keys

use Rattle.std.proofs.Common.{◌≡◌, ◌+◌, drop}
use Rattle.ns_broker.specs.Seen.{keys_among}
use Rattle.ns_broker.proofs.snapshot.placed.keys_among.Given as goal

abbrev pub invariant-loop-slot : goal.invariant-loop-slot
invariant-loop-slot l = l.count + keys_among (drop l.slot-index l.slots) ≡ keys_among l.slots

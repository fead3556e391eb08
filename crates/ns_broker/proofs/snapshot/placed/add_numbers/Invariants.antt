use Rattle.std.proofs.Common.{◌≡◌, fold, drop}
use Rattle.keyed.specs.Table.{rows}
use Rattle.ns_broker.specs.Seen.{add_number}
use Rattle.ns_broker.proofs.snapshot.placed.add_numbers.Given as goal

abbrev pub invariant-loop-slot : goal.invariant-loop-slot
invariant-loop-slot l = fold (add_number l.last l.namespace l.allocations) (rows l.seen) (drop l.slot-index l.slots)
    ≡ fold (add_number l.last l.namespace l.allocations) (rows l.initial.seen) l.slots

use Rattle.std.proofs.Common.{◌≡◌, ◌++◌, drop}
use Rattle.std.specs.Option.{option_copied}
use Rattle.std.specs.Prelude.{flat_map}
use Rattle.ns_broker.specs.Seen.{own_at}
use Rattle.ns_broker.proofs.snapshot.owning.own_at_numbers.Given as goal
use Rattle.ns_tables.specs.Filing.{slots_at}

abbrev pub invariant-loop-slot : goal.invariant-loop-slot
invariant-loop-slot l = l.own ++ flat_map (own_at l.id (option_copied l.job)) (slots_at l.allocations (drop l.slot-index l.slots))
    ≡ flat_map (own_at l.id (option_copied l.job)) (slots_at l.allocations l.slots)

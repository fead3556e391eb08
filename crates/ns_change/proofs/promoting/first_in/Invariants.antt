use Rattle.std.proofs.Common.{◌≡◌, drop}
use Rattle.keyed.specs.Table.{at_slot}
use Rattle.ns_change.specs.Waiting.{standing}
use Rattle.ns_change.specs.Queued.{first_slot}
use Rattle.ns_change.proofs.promoting.first_in.Given as goal

abbrev pub invariant-loop-slot : goal.invariant-loop-slot
invariant-loop-slot l = first_slot (at_slot (standing l.wanted l.job)) (drop l.slot-index l.slots)
    ≡ first_slot (at_slot (standing l.wanted l.job)) l.slots

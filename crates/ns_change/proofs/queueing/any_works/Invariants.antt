use Rattle.std.proofs.Common.{◌≡◌, drop}
use Rattle.std.specs.List.{list_any}
use Rattle.ns_change.specs.Queued.{works_on}
use Rattle.ns_change.proofs.queueing.any_works.Given as goal

abbrev pub invariant-loop-slot : goal.invariant-loop-slot
invariant-loop-slot l =
    let passes = works_on l.tables l.change l.namespace l.job in
    list_any passes (drop l.slot-index l.slots) ≡ list_any passes l.slots

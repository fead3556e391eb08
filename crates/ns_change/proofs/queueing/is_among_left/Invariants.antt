use Rattle.std.proofs.Common.{◌≡◌, drop}
use Rattle.std.specs.List.{list_any}
use Rattle.ns_change.specs.Queued.{is_left_in}
use Rattle.ns_change.proofs.queueing.is_among_left.Given as goal

abbrev pub invariant-loop-slot : goal.invariant-loop-slot
invariant-loop-slot g l =
    list_any (λ slot. is_left_in l.tables l.change l.base.items l.taken l.namespace l.job slot.0) (drop l.slot-index l.slots)
    ≡ list_any (λ slot. is_left_in l.tables l.change l.base.items l.taken l.namespace l.job slot.0) l.slots

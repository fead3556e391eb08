use Rattle.std.proofs.Common.{◌≡◌, drop}
use Rattle.keyed.specs.Table.{rows}
use Rattle.ns_change.specs.Waiting.{unheld_passes, of_job, stands}
use Rattle.ns_change.specs.Queued.{first_slot}
use Rattle.ns_change.proofs.promoting.first_unchanged.Given as goal

abbrev pub invariant-loop-slot : goal.invariant-loop-slot
invariant-loop-slot l =
    first_slot (λ slot. unheld_passes (of_job (stands l.wanted) l.job) (rows l.tenant.evaluations.slots) l.changed slot.0) (drop l.slot-index l.slots)
    ≡ first_slot (λ slot. unheld_passes (of_job (stands l.wanted) l.job) (rows l.tenant.evaluations.slots) l.changed slot.0) l.slots

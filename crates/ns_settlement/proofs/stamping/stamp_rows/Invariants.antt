use Rattle.std.proofs.Common.{◌≡◌, ◌++◌, map, drop, take}
use Rattle.keyed.specs.Table.{rows}
use Rattle.ns_settlement.specs.Stamped.{stamped_slot}
use Rattle.ns_settlement.proofs.stamping.stamp_rows.Given as goal

abbrev pub invariant-loop-slot : goal.invariant-loop-slot
invariant-loop-slot g l = l.slot-items ≡ map (λ e. (e.0, stamped_slot g.R.ShownByNumber.kind l.index (rows l.before) e.0 e.1))
    (take l.slot-index l.initial.slot-items) ++ drop l.slot-index l.initial.slot-items

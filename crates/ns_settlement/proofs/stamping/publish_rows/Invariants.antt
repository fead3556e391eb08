use Rattle.std.proofs.Common.{◌≡◌, ◌++◌, drop}
use Rattle.keyed.specs.Table.{rows}
use Rattle.ns_release.specs.Shown.{changes_slot}
use Rattle.ns_settlement.specs.Stamped.{events_for, topic_at}
use Rattle.ns_settlement.proofs.stamping.publish_rows.Given as goal

abbrev pub invariant-loop-slot : goal.invariant-loop-slot
invariant-loop-slot g l =
    let kind = g.R.ShownByNumber.kind in
    l.events ++ events_for l.index (topic_at kind) (changes_slot kind (rows l.before)) (drop l.slot-index l.slots)
    ≡ l.initial.events ++ events_for l.index (topic_at kind) (changes_slot kind (rows l.before)) l.slots

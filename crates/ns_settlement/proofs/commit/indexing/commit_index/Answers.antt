use Rattle.std.proofs.Common.{ap, subst, sym, ◌∙◌}
use Rattle.std.proofs.Math.ListN.{drop_of_length-le}
use Rattle.std.specs.Option.{option_copied}
use Rattle.ns_settlement.proofs.Following.{all_followed, all_kept, all_unmoved, begun, nothing_changes, nothing_there, one_followed, room_now, Following}
use Rattle.keyed.proofs.Queues.{from_here}
use Rattle.ns_settlement.proofs.commit.indexing.commit_index.Goals as goal
use Rattle.ns_settlement.proofs.commit.indexing.commit_index.Goals.{in-Some+in-Some-get, in-Some+in_default-get, in_default}

pub loop-slot-init : goal.loop-slot-init
loop-slot-init c = begun c.args.changes.now c.args.table.now c.args.live.now _ c.as_slice-slot-items.ensures c.requires

pub put_changes-requires : goal.put_changes-requires
put_changes-requires c = room_now c.args.changes.now c.args.table.now c.slot-item.result.0 c.slot-item.result.1 _ _
    (from_here c.as_slice-slot-items.result.now c.loop-slot.slot-index c.slot-item.result c.loop-slot-test.true c.slot-item.is)
    c.args.live.now c.loop-slot.live c.loop-slot.invariant c.in-Some.change c.in-Some.is

pub loop-slot-preserved : goal.loop-slot-preserved
loop-slot-preserved c =
    let is = from_here c.as_slice-slot-items.result.now c.loop-slot.slot-index c.slot-item.result c.loop-slot-test.true c.slot-item.is in
    elim c.match-slot.branch [
      | in-Some+in-Some-get w ↦ subst (λ live. Following c.args.changes.now c.args.table.now c.args.live.now live _) (sym w.live-is)
          (one_followed c.args.changes.now c.args.table.now c.slot-item.result.0 c.slot-item.result.1 _ _ is c.args.live.now c.loop-slot.live
          c.loop-slot.invariant w.put_changes.new.self w.in-Some.change w.in-Some-get.tenant.now w.in-Some.is
          (sym w.get.ensures ∙ ap option_copied w.in-Some-get.is) w.put_changes.ensures.index w.put_changes.ensures.shown
          (option_copied w.as_ref.result) w.as_ref.ensures.value w.put_changes.ensures.quotas w.put_changes.ensures.room)
      | in-Some+in_default-get w ↦ nothing_there c.args.changes.now c.args.table.now c.slot-item.result.0 c.slot-item.result.1 _ _ is c.args.live.now
          c.loop-slot.live c.loop-slot.invariant c.match-slot.live (sym w.get.ensures ∙ ap option_copied w.in_default-get.is) w.live-is
      | in_default w ↦ nothing_changes c.args.changes.now c.args.table.now c.slot-item.result.0 c.slot-item.result.1 _ _ is c.args.live.now
          c.loop-slot.live c.loop-slot.invariant c.match-slot.live w.in_default.is w.live-is
    ]

pub returns-clause-shown : goal.returns-clause-shown
returns-clause-shown c = all_unmoved c.args.changes.now c.args.table.now c.args.live.now c.loop-slot.live _
    (drop_of_length-le c.as_slice-slot-items.result.now c.loop-slot-test.false) c.loop-slot.invariant

pub returns-clause-index : goal.returns-clause-index
returns-clause-index c = all_followed c.args.changes.now c.args.table.now c.args.live.now c.loop-slot.live _
    (drop_of_length-le c.as_slice-slot-items.result.now c.loop-slot-test.false) c.loop-slot.invariant

pub returns-clause-quotas : goal.returns-clause-quotas
returns-clause-quotas c = all_kept c.args.changes.now c.args.table.now c.args.live.now c.loop-slot.live _
    (drop_of_length-le c.as_slice-slot-items.result.now c.loop-slot-test.false) c.loop-slot.invariant

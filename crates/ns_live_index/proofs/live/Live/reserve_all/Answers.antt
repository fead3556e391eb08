use Rattle.std.proofs.Common.{subst}
use Rattle.keyed.proofs.Mapped.{take_all}
use Rattle.ns_types.specs.State.Lists.{Each}
use Rattle.ns_live_index.specs.Index.{HasRoomFor}
use Rattle.ns_live_index.proofs.Changing.{all_reserved, reserved_more}
use Rattle.ns_live_index.proofs.live.Live.reserve_all.Goals as goal

pub loop-slot-preserved : goal.loop-slot-preserved
loop-slot-preserved c = reserved_more c.args.namespace.now c.as_slice-slot-items.result.now c.loop-slot.slot-index c.slot-item.result c.loop-slot-test.true
    c.slot-item.is c.args.self.now c.loop-slot.self c.reserve_row.new.self c.reserve_row.ensures.same c.reserve_row.ensures.shown c.reserve_row.ensures.room
    (subst (HasRoomFor c.reserve_row.new.self (c.args.namespace.now, c.slot-item.result.0)) c.as_ref.ensures.value c.in_ok-reserve_row.ensures.ok)
    c.loop-slot.invariant

pub returns-clause-ok : goal.returns-clause-ok
returns-clause-ok c = all_reserved c.args.namespace.now c.args.changes.now c.loop-slot.self c.as_slice-slot-items.result.now c.as_slice-slot-items.ensures
    (subst (Each (λ e. HasRoomFor c.loop-slot.self (c.args.namespace.now, e.0) e.1))
    (take_all c.as_slice-slot-items.result.now c.loop-slot.slot-index c.loop-slot-test.false) c.loop-slot.invariant.made)

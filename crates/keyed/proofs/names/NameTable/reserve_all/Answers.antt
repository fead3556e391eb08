use Rattle.std.proofs.Common.{◌∙◌, subst}
use Rattle.ns_types.proofs.Named.{names, one_name}
use Rattle.keyed.proofs.Applying.{RoomLeft, one_reserved, room_by}
use Rattle.keyed.proofs.Mapped.{take_all}
use Rattle.keyed.proofs.names.NameTable.reserve_all.Goals as goal

pub loop-slot-preserved : goal.loop-slot-preserved
loop-slot-preserved g c = one_reserved names one_name c.loop-slot.self c.reserve.new.self c.args.self.now c.as_slice-slot-items.result.now
    c.loop-slot.slot-index c.slot-item.result c.in_ok-reserve.ensures.ok c.loop-slot-test.true c.slot-item.is c.loop-slot.invariant

pub returns-clause-room : goal.returns-clause-room
returns-clause-room g c = room_by names one_name c.args.changes.now c.loop-slot.self
    (subst (RoomLeft names one_name c.loop-slot.self) (take_all c.as_slice-slot-items.result.now c.loop-slot.slot-index c.loop-slot-test.false ∙
    c.as_slice-slot-items.ensures) c.loop-slot.invariant.1)

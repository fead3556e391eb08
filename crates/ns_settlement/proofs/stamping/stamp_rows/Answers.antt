use Rattle.std.proofs.Common.{ap, sym, ◌∙◌, length, map, set}
use Rattle.std.proofs.lemmas.List.Edits.{map_over_more}
use Rattle.keyed.proofs.Mapped.{mapped_end, mapped_rows, mapped_sorted, refilled}
use Rattle.keyed.specs.Table.{rows}
use Rattle.ns_settlement.specs.Stamped.{stamped_slot}
use Rattle.ns_settlement.proofs.stamping.stamp_rows.Goals as goal

pub loop-slot-preserved : goal.loop-slot-preserved
loop-slot-preserved g c =
    let f = stamped_slot g.R.ShownByNumber.kind c.args.index (rows c.args.before.now) in
    ap (λ x. set c.loop-slot.slot-items c.loop-slot.slot-index x) c.stamp_slot.ensures
    ∙ ap (λ e. set c.loop-slot.slot-items c.loop-slot.slot-index (e.0, f e.0 e.1)) (sym c.slot-item.is)
    ∙ map_over_more (λ e. (e.0, f e.0 e.1)) c.deref_mut-slot-items.result.now c.loop-slot.slot-items c.loop-slot.slot-index c.slot-item.result
    c.loop-slot-test.true c.loop-slot.invariant c.slot-item.is

pub from_slots-requires : goal.from_slots-requires
from_slots-requires g c =
    let f = stamped_slot g.R.ShownByNumber.kind c.args.index (rows c.args.before.now) in
    let end = mapped_end (λ e. (e.0, f e.0 e.1)) c.deref_mut-slot-items.result.now c.loop-slot.slot-items c.loop-slot.slot-index c.loop-slot-test.false
    c.loop-slot.invariant in
    mapped_sorted f c.args.changes _ (refilled _ c.into_slots-slots.result.items c.loop-slot.slot-items
    (c.loop-slot.auto.slot-items ∙ ap length c.deref_mut-slot-items.ensures.value) c.into_slots-slots.result.ok.0
    ∙ end ∙ ap (map (λ e. (e.0, f e.0 e.1))) (c.deref_mut-slot-items.ensures.value ∙ c.into_slots-slots.ensures))

pub returns : goal.returns
returns g c =
    let f = stamped_slot g.R.ShownByNumber.kind c.args.index (rows c.args.before.now) in
    let end = mapped_end (λ e. (e.0, f e.0 e.1)) c.deref_mut-slot-items.result.now c.loop-slot.slot-items c.loop-slot.slot-index c.loop-slot-test.false
    c.loop-slot.invariant in
    c.from_slots.ensures ∙ mapped_rows f c.args.changes _
    (refilled _ c.into_slots-slots.result.items c.loop-slot.slot-items (c.loop-slot.auto.slot-items ∙ ap length c.deref_mut-slot-items.ensures.value)
    c.into_slots-slots.result.ok.0
    ∙ end ∙ ap (map (λ e. (e.0, f e.0 e.1))) (c.deref_mut-slot-items.ensures.value ∙ c.into_slots-slots.ensures))

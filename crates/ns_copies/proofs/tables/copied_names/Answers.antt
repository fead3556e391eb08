use Rattle.std.proofs.Common.{Vec, ap, sym, ◌∙◌}
use Rattle.keyed.proofs.Queues.{from_here}
use Rattle.ns_types.proofs.Named.{names, one_name}
use Rattle.std.proofs.Math.ListN.{drop_of_length-le}
use Rattle.ns_copies.specs.Chosen.{is_chosen}
use Rattle.ns_copies.proofs.Slotwise.{begun, chosen, copies_rise, next_whole, table_copied, unchosen, vacant}
use Rattle.ns_copies.proofs.tables.copied_names.Goals as goal
use Rattle.ns_copies.proofs.tables.copied_names.Goals.{in-Some+else-has, in-Some+then-has+in_ok-clone+in_ok-copied+in_ok-push, in_default}

pub loop-slot-init : goal.loop-slot-init
loop-slot-init g c = begun g.V.Copies.seen g.V.Copies.IsWhole (is_chosen c.args.chosen) names one_name c.args.table.now _ _ c.new-slots.ensures.items
    c.as_slice-slot-items.ensures c.requires

pub copied-requires : goal.copied-requires
copied-requires g c = next_whole g.V.Copies.seen g.V.Copies.IsWhole (is_chosen c.args.chosen) c.loop-slot.slots.items c.loop-slot.slots.items _
    c.as_slice-slot-items.result.now _ c.slot-item.result
    (from_here c.as_slice-slot-items.result.now c.loop-slot.slot-index c.slot-item.result c.loop-slot-test.true c.slot-item.is) c.loop-slot.invariant
    c.in-Some.row c.in-Some.is

pub loop-slot-preserved : goal.loop-slot-preserved
loop-slot-preserved g c =
    let is = from_here c.as_slice-slot-items.result.now c.loop-slot.slot-index c.slot-item.result c.loop-slot-test.true c.slot-item.is in
    elim c.match-slot.branch [
      | in-Some+then-has+in_ok-clone+in_ok-copied+in_ok-push w ↦ chosen g.V.Copies.seen g.V.Copies.IsWhole (is_chosen c.args.chosen)
          c.loop-slot.slots.items c.match-slot.slots.items _ c.as_slice-slot-items.result.now _ c.slot-item.result is c.loop-slot.invariant
          w.in-Some.row w.in_ok-copied.field-0 w.in_ok-clone.field-0 w.in-Some.is (sym w.has.ensures ∙ w.if-has.true) w.in_ok-clone.ensures.cases
          w.in_ok-copied.ensures (ap (λ (v : Vec _ _). v.items) w.slots-is ∙ w.in_ok-push.ensures.items)
      | in-Some+else-has w ↦ unchosen g.V.Copies.seen g.V.Copies.IsWhole (is_chosen c.args.chosen)
          c.loop-slot.slots.items c.match-slot.slots.items _ c.as_slice-slot-items.result.now _ c.slot-item.result is c.loop-slot.invariant
          w.in-Some.row w.in-Some.is (sym w.has.ensures ∙ w.if-has.false) (ap (λ (v : Vec _ _). v.items) w.slots-is)
      | in_default w ↦ vacant g.V.Copies.seen g.V.Copies.IsWhole (is_chosen c.args.chosen)
          c.loop-slot.slots.items c.match-slot.slots.items _ c.as_slice-slot-items.result.now _ c.slot-item.result is c.loop-slot.invariant
          w.in_default.is (ap (λ (v : Vec _ _). v.items) w.slots-is)
    ]

pub from_slots-requires : goal.from_slots-requires
from_slots-requires g c = copies_rise g.V.Copies.seen g.V.Copies.IsWhole (is_chosen c.args.chosen) names one_name c.args.table.now _ _ _
    c.as_slice-slot-items.ensures (drop_of_length-le c.as_slice-slot-items.result.now c.loop-slot-test.false) c.loop-slot.invariant

pub returns : goal.returns
returns g c = table_copied g.V.Copies.seen g.V.Copies.IsWhole (is_chosen c.args.chosen) names one_name c.args.table.now _ _ _
    c.as_slice-slot-items.ensures (drop_of_length-le c.as_slice-slot-items.result.now c.loop-slot-test.false) c.loop-slot.invariant _ c.from_slots.ensures

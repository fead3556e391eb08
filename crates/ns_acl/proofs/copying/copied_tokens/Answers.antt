use Rattle.std.proofs.Common.{Vec, ap, ◌∙◌}
use Rattle.std.proofs.Math.ListN.{drop_of_length-le}
use Rattle.keyed.proofs.Queues.{from_here}
use Rattle.ns_acl.proofs.Copied.{begun, copied, copies_rise, table_copied, vacant}
use Rattle.ns_acl.proofs.copying.copied_tokens.Goals as goal
use Rattle.ns_acl.proofs.copying.copied_tokens.Goals.{in-Some+in_ok-clone+in_ok-copied_token+in_ok-push, in_default}

pub loop-slot-init : goal.loop-slot-init
loop-slot-init c = begun _ c.as_slice-slot-items.result.now c.new-slots.ensures.items

pub loop-slot-preserved : goal.loop-slot-preserved
loop-slot-preserved c =
    let is = from_here c.as_slice-slot-items.result.now c.loop-slot.slot-index c.slot-item.result c.loop-slot-test.true c.slot-item.is in
    elim c.match-slot.branch [
      | in-Some+in_ok-clone+in_ok-copied_token+in_ok-push w ↦ copied c.loop-slot.slots.items c.match-slot.slots.items _
          c.as_slice-slot-items.result.now _ c.slot-item.result is c.loop-slot.invariant w.in-Some.token w.in_ok-copied_token.field-0 w.in_ok-clone.field-0
          w.in-Some.is w.in_ok-clone.ensures.cases w.in_ok-copied_token.ensures (ap (λ (v : Vec _ _). v.items) w.slots-is ∙ w.in_ok-push.ensures.items)
      | in_default w ↦ vacant c.loop-slot.slots.items c.match-slot.slots.items _ c.as_slice-slot-items.result.now _ c.slot-item.result is
          c.loop-slot.invariant w.in_default.is (ap (λ (v : Vec _ _). v.items) w.slots-is)
    ]

pub from_slots-requires : goal.from_slots-requires
from_slots-requires c = copies_rise c.args.tokens.now _ _ _ c.as_slice-slot-items.ensures
    (drop_of_length-le c.as_slice-slot-items.result.now c.loop-slot-test.false) c.loop-slot.invariant

pub returns : goal.returns
returns c = table_copied c.args.tokens.now _ _ _ c.as_slice-slot-items.ensures
    (drop_of_length-le c.as_slice-slot-items.result.now c.loop-slot-test.false) c.loop-slot.invariant _ c.from_slots.ensures

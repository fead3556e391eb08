use Rattle.std.proofs.Common.{ap, arith, sym, subst, length, ◌∙◌, ◌+◌, ◌++◌}
use Rattle.std.specs.contracts.alloc.Global.{the_row}
use Rattle.ns_types.specs.declared.step.Step.{Step}
use Rattle.ns_steps.specs.Served.{IsServed}
use Rattle.ns_work_log.specs.Logs.{next_place}
use Rattle.ns_work_lock.specs.Receiving.{LogsAsked, answered, count, receipt_of, response_of}
use Rattle.ns_work_lock.proofs.Adding.{asked_count, begin_asked, given_asked, given_same, received_length, seat_received}
use Rattle.ns_work_lock.proofs.ended.Ended.take.Goals as goal

pub invariant_of-self : goal.invariant_of-self
invariant_of-self g c = record { counted = c.args.self.now.counted; parted = c.args.self.now.parted; unused = c.args.self.now.unused }

pub invariant_of-seat : goal.invariant_of-seat
invariant_of-seat g c = (
  c.seat.invariant.0,
  c.seat.invariant.1 ∙ ap (λ xs. length c.seat.inside.past.receipts + length xs) (sym c.prepare_shared.ensures.same),
  c.seat.invariant.2,
)

pub returns-in-Err-clause-logged : goal.returns-in-Err-clause-logged
returns-in-Err-clause-logged g c = begin_asked the_row.Denot (Step × Step) c.args.step c.args.self.now.held c.in-Err.refusal c.in-Err.ensures.begins

pub returns-in-Err-clause-received : goal.returns-in-Err-clause-received
returns-in-Err-clause-received g c = ap (λ xs. c.seat.inside.past.receipts ++ xs) c.prepare_shared.ensures.same ∙ c.seat.view_is

pub take_rendered-given-requires : goal.take_rendered-given-requires
take_rendered-given-requires g c = subst IsServed (sym c.in-Ok.ensures.entry) c.requires

pub receive_given-requires-clause-place : goal.receive_given-requires-clause-place
receive_given-requires-clause-place g c = c.in-Ok.ensures.place

pub receive_given-requires-clause-part : goal.receive_given-requires-clause-part
receive_given-requires-clause-part g c = c.seat.invariant.0

pub invariant_of-self-2 : goal.invariant_of-self-2
invariant_of-self-2 g c = record {
  counted = omega (
    arith,
    c.args.self.now.counted,
    c.receive_given.ensures.total,
    ap count (given_same c.in-Ok.owned.0 c.args.self.now.held c.take_rendered-given.result c.take_rendered-given.new.self c.take_rendered-given.ensures),
    asked_count c.in-Ok.owned.0 c.args.self.now.held (response_of c.take_rendered-given.result) c.take_rendered-given.new.self
        (given_asked c.in-Ok.owned.0 c.args.self.now.held c.take_rendered-given.result c.take_rendered-given.new.self c.take_rendered-given.ensures),
  );
  parted = c.args.self.now.parted;
  unused = c.args.self.now.unused;
}

pub invariant_of-seat-2 : goal.invariant_of-seat-2
invariant_of-seat-2 g c = (
  c.receive_given.ensures.parts,
  omega (
    arith,
    c.seat.invariant.1,
    ap length c.prepare_shared.ensures.same,
    ap length c.receive_given.ensures.receipts,
    received_length c.next_place-place.result c.in-Ok.owned.1 (receipt_of c.take_rendered-given.result) c.prepare_shared.new.receipts.items,
    c.receive_given.ensures.amount,
  ),
  c.seat.invariant.2,
)

pub returns-clause-logged : goal.returns-clause-logged
returns-clause-logged g c = subst (λ step. LogsAsked step c.args.self.now.held c.receive_given.result c.take_rendered-given.new.self) c.in-Ok.ensures.entry
    (subst (λ r. LogsAsked c.in-Ok.owned.0 c.args.self.now.held r c.take_rendered-given.new.self) (sym c.receive_given.ensures.response)
    (given_asked c.in-Ok.owned.0 c.args.self.now.held c.take_rendered-given.result c.take_rendered-given.new.self c.take_rendered-given.ensures))

pub returns-clause-received : goal.returns-clause-received
returns-clause-received g c = seat_received c.seat.inside.past.receipts c.seat.inside.receipts.items c.prepare_shared.new.receipts.items
    c.receive_given.new.receipts.items c.args.seat.now c.next_place-place.result (next_place c.args.self.now.held)
    c.in-Ok.owned.1 c.args.step (receipt_of c.take_rendered-given.result) (answered c.receive_given.result)
    c.receive_given.ensures.receipts c.prepare_shared.ensures.same c.seat.view_is
    c.next_place-place.ensures c.in-Ok.ensures.receipt
    (given_same c.in-Ok.owned.0 c.args.self.now.held c.take_rendered-given.result c.take_rendered-given.new.self c.take_rendered-given.ensures
    ∙ ap answered (sym c.receive_given.ensures.response))

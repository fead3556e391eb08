use Rattle.std.proofs.Common.{Some, ap, refl, sym, ◌∙◌, arith}
use Rattle.std.specs.Option.{option_copied_mut}
use Rattle.ns_types.specs.State.Names.{has_key}
use Rattle.ns_queues.proofs.Leveled.{not_taken, room_kept, row_other, taken_out}
use Rattle.ns_queues.proofs.levels.take_out.Goals as goal

pub returns-then-has-clause-others : goal.returns-then-has-clause-others
returns-then-has-clause-others c = row_other c.args.levels.now c.args.priority (Some c.take_out.new.self)

pub returns-then-has-clause-here : goal.returns-then-has-clause-here
returns-then-has-clause-here c = taken_out c.args.levels.now c.args.priority c.in-Some.queue.now c.take_out.new.self
    (sym c.get_mut.ensures.value ∙ ap option_copied_mut c.in-Some.is) c.args.key.now c.args.keys.now
    (sym c.if-has.true ∙ c.has.ensures ∙ (λ i. has_key c.in-Some.queue.now.items (c.namespace.ensures i, c.number.ensures i))) c.take_out.ensures.items

pub returns-then-has-clause-room : goal.returns-then-has-clause-room
returns-then-has-clause-room c = room_kept c.args.levels.now c.args.priority c.in-Some.queue.now c.take_out.new.self
    (sym c.get_mut.ensures.value ∙ ap option_copied_mut c.in-Some.is) c.take_out.ensures.room

pub returns-else-has-clause-others : goal.returns-else-has-clause-others
returns-else-has-clause-others c = row_other c.args.levels.now c.args.priority (Some c.in-Some.queue.now)

pub returns-else-has-clause-here : goal.returns-else-has-clause-here
returns-else-has-clause-here c = not_taken c.args.levels.now c.args.priority c.in-Some.queue.now c.in-Some.queue.now
    (sym c.get_mut.ensures.value ∙ ap option_copied_mut c.in-Some.is) c.args.key.now c.args.keys.now
    (sym c.if-has.false ∙ c.has.ensures ∙ (λ i. has_key c.in-Some.queue.now.items (c.namespace.ensures i, c.number.ensures i))) refl

pub returns-else-has-clause-room : goal.returns-else-has-clause-room
returns-else-has-clause-room c = room_kept c.args.levels.now c.args.priority c.in-Some.queue.now c.in-Some.queue.now
    (sym c.get_mut.ensures.value ∙ ap option_copied_mut c.in-Some.is) (λ keys can. can)

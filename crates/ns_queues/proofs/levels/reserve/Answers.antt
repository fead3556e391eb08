use Rattle.std.proofs.Common.{Some, ap, sym, ◌∙◌}
use Rattle.std.specs.Option.{option_copied_mut}
use Rattle.ns_queues.proofs.Leveled.{others_then, room_written, row_other, same_then, same_written}
use Rattle.ns_queues.proofs.levels.reserve.Goals as goal

pub returns-in_err-reserve-clause-same : goal.returns-in_err-reserve-clause-same
returns-in_err-reserve-clause-same c = same_then _ _ _ c.open.ensures.same
    (same_written c.open.new.levels c.args.priority c.in-Some.queue.now c.reserve.new.self
    (sym c.get_mut.ensures.value ∙ ap option_copied_mut c.in-Some.is) c.reserve.ensures.items)

pub returns-in_err-reserve-clause-others : goal.returns-in_err-reserve-clause-others
returns-in_err-reserve-clause-others c = others_then c.args.priority _ _ _ c.open.ensures.others
    (row_other c.open.new.levels c.args.priority (Some c.reserve.new.self))

pub returns-in_ok-reserve-clause-same : goal.returns-in_ok-reserve-clause-same
returns-in_ok-reserve-clause-same c = same_then _ _ _ c.open.ensures.same (same_written c.open.new.levels c.args.priority c.in-Some.queue.now c.reserve.new.self
    (sym c.get_mut.ensures.value ∙ ap option_copied_mut c.in-Some.is) c.reserve.ensures.items)

pub returns-in_ok-reserve-clause-others : goal.returns-in_ok-reserve-clause-others
returns-in_ok-reserve-clause-others c = others_then c.args.priority _ _ _ c.open.ensures.others
    (row_other c.open.new.levels c.args.priority (Some c.reserve.new.self))

pub returns-in_ok-reserve-clause-ok : goal.returns-in_ok-reserve-clause-ok
returns-in_ok-reserve-clause-ok c = room_written c.open.new.levels c.args.priority c.in-Some.queue.now c.reserve.new.self
    (sym c.get_mut.ensures.value ∙ ap option_copied_mut c.in-Some.is) c.args.keys.now c.in_ok-reserve.ensures.ok

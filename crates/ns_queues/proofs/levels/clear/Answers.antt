use Rattle.std.proofs.Common.{ap, sym, ◌∙◌}
use Rattle.std.specs.Option.{option_copied_mut}
use Rattle.ns_queues.proofs.Leveled.{same_removed, same_written}
use Rattle.ns_queues.proofs.levels.clear.Goals as goal

pub returns-then-is_empty : goal.returns-then-is_empty
returns-then-is_empty c = same_removed c.args.levels.now c.args.priority c.in-Some.queue.now c.clear_room.new.self
    (sym c.get_mut.ensures.value ∙ ap option_copied_mut c.in-Some.is) c.remove.new.self c.remove.ensures c.clear_room.ensures
    (sym c.is_empty.ensures ∙ c.if-is_empty.true)

pub returns-else-is_empty : goal.returns-else-is_empty
returns-else-is_empty c = same_written c.args.levels.now c.args.priority c.in-Some.queue.now c.clear_room.new.self
    (sym c.get_mut.ensures.value ∙ ap option_copied_mut c.in-Some.is) c.clear_room.ensures

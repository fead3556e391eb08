use Rattle.std.proofs.Common.{Some, ◌++◌, ap, sym, ◌∙◌}
use Rattle.std.specs.Option.{option_copied_mut}
use Rattle.ns_queues.proofs.Leveled.{now_at, row_other, was_at}
use Rattle.ns_queues.proofs.levels.append.Goals as goal

pub returns-in-Some-clause-others : goal.returns-in-Some-clause-others
returns-in-Some-clause-others c = row_other c.args.levels.now c.args.priority (Some c.append.new.self)

pub returns-in-Some-clause-here : goal.returns-in-Some-clause-here
returns-in-Some-clause-here c =
    let there = sym c.get_mut.ensures.value ∙ ap option_copied_mut c.in-Some.is in
    now_at c.args.levels.now c.args.priority c.in-Some.queue.now c.append.new.self there ∙ c.append.ensures
    ∙ ap (λ l. l ++ c.args.keys) (sym (was_at c.args.levels.now c.args.priority c.in-Some.queue.now c.append.new.self there))

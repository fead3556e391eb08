use Rattle.std.proofs.Common.{ap, not, sym, ◌∙◌}
use Rattle.ns_change.specs.Changed.{without_keys}
use Rattle.ns_types.proofs.Tests.{is_no}
use Rattle.ns_queues.specs.Ready.{level_at}
use Rattle.ns_queues.proofs.Stepped.{followed, kept_priorities, still_unmoved}
use Rattle.ns_queues.proofs.ready.ByPriority.follow.Goals as goal

pub returns-clause-right : goal.returns-clause-right
returns-clause-right c right = followed c.args.tables.now c.args.settled.now
    (c.any_moved.ensures.none (is_no c.any_moved.result right) (still_unmoved c.args.tables.now))
    c.args.self.now (record { levels = c.clear_all.new.levels }) c.take_all.new.levels c.append_all.new.levels c.args.arrivals
    (λ q only. c.take_all.ensures.keys q only ∙ ap (λ taken. without_keys taken (level_at c.args.self.now.levels q)) c.as_slice-taken.ensures)
    c.append_all.ensures c.clear_all.ensures c.requires.arrivals

pub returns-clause-kept : goal.returns-clause-kept
returns-clause-kept c = ap not c.any_moved.ensures.any ∙ sym (kept_priorities c.args.tables.now c.args.settled.now)

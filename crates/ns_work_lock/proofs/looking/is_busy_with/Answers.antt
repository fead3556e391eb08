use Rattle.std.proofs.Common.{sym, ◌∙◌}
use Rattle.ns_work_lock.proofs.Planners.{not_busy}
use Rattle.ns_work_lock.proofs.looking.is_busy_with.Goals as goal

pub returns-then-not-has_evaluation : goal.returns-then-not-has_evaluation
returns-then-not-has_evaluation c = not_busy c.args.core.now.world c.args.worker c.args.key.now
    (sym c.has_evaluation.ensures ∙ c.if-not-has_evaluation.true)

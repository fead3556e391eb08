use Rattle.std.proofs.Common.{ap, sym, ◌∙◌}
use Rattle.std.specs.List.{list_any}
use Rattle.ns_types.specs.Working.Queue.{is_of_job}
use Rattle.ns_change.specs.Changed.{view}
use Rattle.ns_change.proofs.Any.{or_else, or_then}
use Rattle.ns_change.proofs.Listed.{ready_seen}
use Rattle.ns_change.proofs.queueing.is_busy.Goals as goal

pub returns-then-is_listed : goal.returns-then-is_listed
returns-then-is_listed c = or_then _ _ _ c.if-is_listed.true
    (c.is_listed.ensures ∙ ap (λ l. list_any (is_of_job (view c.args.tables.now c.args.change.now) c.args.namespace.now c.args.job.now) l)
    (sym (ready_seen c.args.tables.now c.args.change.now)))

pub returns-else-is_listed : goal.returns-else-is_listed
returns-else-is_listed c = or_else _ _ _ _ c.if-is_listed.false
    (c.is_listed.ensures ∙ ap (λ l. list_any (is_of_job (view c.args.tables.now c.args.change.now) c.args.namespace.now c.args.job.now) l)
    (sym (ready_seen c.args.tables.now c.args.change.now))) c.is_worked_on.ensures

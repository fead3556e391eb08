use Rattle.std.proofs.Common.{sym, ◌∙◌}
use Rattle.ns_change.specs.Changed.{view}
use Rattle.ns_change.proofs.Waiting.{cancel_none}
use Rattle.ns_change.proofs.promoting.cancel_blocked.Goals as goal

pub returns-in_default : goal.returns-in_default
returns-in_default c = cancel_none (view c.args.tables.now c.args.change.now) c.args.namespace.now c.args.job.now (sym c.first_of_job.ensures ∙ c.in_default.is)

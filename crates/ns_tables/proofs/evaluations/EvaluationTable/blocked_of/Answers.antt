use Rattle.std.proofs.Common.{subst}
use Rattle.std.specs.Option.{option_copied}
use Rattle.ns_types.specs.State.Rows.{is_blocked}
use Rattle.ns_tables.proofs.Filed.{numbers_under}
use Rattle.ns_tables.specs.Filing.{AreNumbersUnder, job_where}
use Rattle.ns_tables.proofs.evaluations.EvaluationTable.blocked_of.Goals as goal

pub returns : goal.returns
returns c = subst (λ t. AreNumbersUnder (job_where is_blocked) c.args.job.now t.slots (option_copied c.numbers_of.result)) c.self.view_is
    (numbers_under (job_where is_blocked) c.self.inside.blocked c.self.inside.slots c.args.job.now _ c.self.invariant.blocked c.numbers_of.ensures)

use Rattle.std.proofs.Common.{subst}
use Rattle.std.specs.Option.{option_copied}
use Rattle.ns_tables.proofs.Filed.{numbers_under}
use Rattle.ns_tables.specs.Filing.{AreNumbersUnder, evaluation_job}
use Rattle.ns_tables.proofs.evaluations.EvaluationTable.numbers_of.Goals as goal

pub returns : goal.returns
returns c = subst (λ t. AreNumbersUnder evaluation_job c.args.job.now t.slots (option_copied c.numbers_of.result)) c.self.view_is
    (numbers_under evaluation_job c.self.inside.jobs c.self.inside.slots c.args.job.now _ c.self.invariant.jobs c.numbers_of.ensures)

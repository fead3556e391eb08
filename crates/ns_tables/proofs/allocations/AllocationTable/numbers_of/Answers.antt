use Rattle.std.proofs.Common.{subst}
use Rattle.std.specs.Option.{option_copied}
use Rattle.ns_tables.proofs.Filed.{numbers_under}
use Rattle.ns_tables.specs.Filing.{AreNumbersUnder, allocation_job}
use Rattle.ns_tables.proofs.allocations.AllocationTable.numbers_of.Goals as goal

pub returns : goal.returns
returns c = subst (λ t. AreNumbersUnder allocation_job c.args.job.now t.slots (option_copied c.numbers_of.result)) c.self.view_is
    (numbers_under allocation_job c.self.inside.jobs c.self.inside.slots c.args.job.now _ c.self.invariant.jobs c.numbers_of.ensures)

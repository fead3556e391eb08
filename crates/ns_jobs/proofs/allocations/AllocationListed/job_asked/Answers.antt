use Rattle.std.proofs.Common.{◌≡◌, subst, true}
use Rattle.ns_jobs.specs.Read.{allocation_shown, lists_allocation}
use Rattle.ns_jobs.proofs.allocations.AllocationListed.job_asked.Goals as goal

pub returns-in-JobAllocations : goal.returns-in-JobAllocations
returns-in-JobAllocations c ns n x listed = subst (λ command. lists_allocation command (allocation_shown ns n x) ≡ true) c.in-JobAllocations.is listed

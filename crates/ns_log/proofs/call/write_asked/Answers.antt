use Rattle.ns_json.specs.Logs.{asked}
use Rattle.ns_log.proofs.call.write_asked.Goals as goal

pub returns-in-JobAllocations : goal.returns-in-JobAllocations
unfolding asked
returns-in-JobAllocations c = rw c.in-JobAllocations.is c.write_text-in-JobAllocations.ensures

pub returns-in-JobEvaluations : goal.returns-in-JobEvaluations
unfolding asked
returns-in-JobEvaluations c = rw c.in-JobEvaluations.is c.write_text-in-JobEvaluations.ensures

pub returns-in-ListAllocations : goal.returns-in-ListAllocations
unfolding asked
returns-in-ListAllocations c = rw c.in-ListAllocations.is c.write_text-in-ListAllocations.ensures

pub returns-in-StopAllocation : goal.returns-in-StopAllocation
unfolding asked
returns-in-StopAllocation c = rw c.in-StopAllocation.is c.write_number-in-StopAllocation.ensures

pub returns-in-ReadNamespace : goal.returns-in-ReadNamespace
unfolding asked
returns-in-ReadNamespace c = rw c.in-ReadNamespace.is c.write_bare.ensures

pub returns-in-QuotaUsage : goal.returns-in-QuotaUsage
unfolding asked
returns-in-QuotaUsage c = rw c.in-QuotaUsage.is c.write_text-in-QuotaUsage.ensures

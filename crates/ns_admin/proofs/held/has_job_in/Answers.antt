use Rattle.ns_admin.specs.Asked.{passes}
use Rattle.ns_admin.proofs.Holdings.{by_slots}
use Rattle.ns_admin.proofs.held.has_job_in.Goals as goal

pub returns : goal.returns
returns c = by_slots (λ _ job. passes c.args.asked.now job.document.pool) c.args.tenant.now.jobs _ _ c.as_slice.ensures c.any_job_in.ensures

use Rattle.ns_laws.proofs.Access.Secrets.{list_needs_list_jobs}
use Rattle.ns_laws.proofs.secrets.list_needs_list_jobs.Goals as goal

pub returns : goal.returns
returns c = list_needs_list_jobs

use Rattle.ns_laws.proofs.Access.Secrets.{job_writes_need_submit}
use Rattle.ns_laws.proofs.secrets.job_writes_need_submit.Goals as goal

pub returns : goal.returns
returns c = job_writes_need_submit

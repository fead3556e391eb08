use Rattle.ns_laws.proofs.Access.Secrets.{reads_need_read_job}
use Rattle.ns_laws.proofs.secrets.reads_need_read_job.Goals as goal

pub returns : goal.returns
returns c = reads_need_read_job

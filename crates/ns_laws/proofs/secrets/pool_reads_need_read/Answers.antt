use Rattle.ns_laws.proofs.Access.Secrets.{pool_reads_need_read}
use Rattle.ns_laws.proofs.secrets.pool_reads_need_read.Goals as goal

pub returns : goal.returns
returns c = pool_reads_need_read

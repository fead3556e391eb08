use Rattle.ns_laws.proofs.Access.Secrets.{pool_writes_need_write}
use Rattle.ns_laws.proofs.secrets.pool_writes_need_write.Goals as goal

pub returns : goal.returns
returns c = pool_writes_need_write

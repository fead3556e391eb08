use Rattle.ns_laws.proofs.Access.Secrets.{pool_rights_are_granted}
use Rattle.ns_laws.proofs.secrets.pool_rights_are_granted.Goals as goal

pub returns : goal.returns
returns c = pool_rights_are_granted

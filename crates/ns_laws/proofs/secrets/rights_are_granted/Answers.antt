use Rattle.ns_laws.proofs.Access.Secrets.{rights_are_granted}
use Rattle.ns_laws.proofs.secrets.rights_are_granted.Goals as goal

pub returns : goal.returns
returns c = rights_are_granted

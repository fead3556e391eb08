use Rattle.ns_laws.proofs.Access.Tokens.{manager_deletes_policy}
use Rattle.ns_laws.proofs.secrets.manager_deletes_policy.Goals as goal

pub returns : goal.returns
returns c = manager_deletes_policy

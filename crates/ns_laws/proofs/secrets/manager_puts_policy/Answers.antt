use Rattle.ns_laws.proofs.Access.Tokens.{manager_puts_policy}
use Rattle.ns_laws.proofs.secrets.manager_puts_policy.Goals as goal

pub returns : goal.returns
returns c = manager_puts_policy

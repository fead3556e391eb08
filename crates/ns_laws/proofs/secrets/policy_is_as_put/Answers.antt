use Rattle.ns_laws.proofs.Access.Tokens.{policy_is_as_put}
use Rattle.ns_laws.proofs.secrets.policy_is_as_put.Goals as goal

pub returns : goal.returns
returns c = policy_is_as_put

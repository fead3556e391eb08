use Rattle.ns_laws.proofs.Access.Tokens.{manager_deletes_token}
use Rattle.ns_laws.proofs.secrets.manager_deletes_token.Goals as goal

pub returns : goal.returns
returns c = manager_deletes_token

use Rattle.ns_laws.proofs.Access.Tokens.{manager_creates_token}
use Rattle.ns_laws.proofs.secrets.manager_creates_token.Goals as goal

pub returns : goal.returns
returns c = manager_creates_token

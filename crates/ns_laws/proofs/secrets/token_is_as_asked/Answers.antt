use Rattle.ns_laws.proofs.Access.Tokens.{token_is_as_asked}
use Rattle.ns_laws.proofs.secrets.token_is_as_asked.Goals as goal

pub returns : goal.returns
returns c = token_is_as_asked

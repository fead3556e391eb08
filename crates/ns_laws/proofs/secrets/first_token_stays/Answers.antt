use Rattle.ns_laws.proofs.Access.Tokens.{first_token_stays}
use Rattle.ns_laws.proofs.secrets.first_token_stays.Goals as goal

pub returns : goal.returns
returns c = first_token_stays

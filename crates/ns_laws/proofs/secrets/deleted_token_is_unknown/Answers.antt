use Rattle.ns_laws.proofs.Access.Tokens.{deleted_token_is_unknown}
use Rattle.ns_laws.proofs.secrets.deleted_token_is_unknown.Goals as goal

pub returns : goal.returns
returns c = deleted_token_is_unknown

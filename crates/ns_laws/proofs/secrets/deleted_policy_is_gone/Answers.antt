use Rattle.ns_laws.proofs.Access.Tokens.{deleted_policy_is_gone}
use Rattle.ns_laws.proofs.secrets.deleted_policy_is_gone.Goals as goal

pub returns : goal.returns
returns c = deleted_policy_is_gone

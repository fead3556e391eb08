use Rattle.ns_laws.proofs.Access.Tokens.{no_change_without_write}
use Rattle.ns_laws.proofs.secrets.no_change_without_write.Goals as goal

pub returns : goal.returns
returns c = no_change_without_write

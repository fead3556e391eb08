use Rattle.ns_laws.proofs.Access.Tokens.{no_change_without_submit}
use Rattle.ns_laws.proofs.secrets.no_change_without_submit.Goals as goal

pub returns : goal.returns
returns c = no_change_without_submit

use Rattle.ns_audit.proofs.RightsLemmas.{deny_gives_nothing}
use Rattle.ns_laws.proofs.rights.deny_gives_nothing.Goals as goal

pub returns : goal.returns
returns c = deny_gives_nothing

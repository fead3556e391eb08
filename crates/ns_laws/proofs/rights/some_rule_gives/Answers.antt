use Rattle.ns_audit.proofs.RightsLemmas.{some_rule_gives}
use Rattle.ns_laws.proofs.rights.some_rule_gives.Goals as goal

pub returns : goal.returns
returns c = some_rule_gives

use Rattle.ns_laws.proofs.Endings.Laws.{gone_with_namespace}
use Rattle.ns_laws.proofs.ending.gone_with_namespace.Goals as goal

pub returns : goal.returns
returns c = gone_with_namespace

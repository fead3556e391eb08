use Rattle.ns_laws.proofs.Meanings.{namespaces_past_bound}
use Rattle.ns_laws.proofs.statuses.namespaces_past_bound.Goals as goal

pub returns : goal.returns
returns c = namespaces_past_bound

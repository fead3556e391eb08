use Rattle.ns_laws.proofs.ReachLemmas.{own_by_namespace}
use Rattle.ns_laws.proofs.reach.own_by_namespace.Goals as goal

pub returns : goal.returns
returns c = own_by_namespace

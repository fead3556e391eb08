use Rattle.ns_laws.proofs.ReachLemmas.{own_by_owner}
use Rattle.ns_laws.proofs.reach.own_by_owner.Goals as goal

pub returns : goal.returns
returns c = own_by_owner

use Rattle.ns_laws.proofs.Scope.Reach.{own_by_pool}
use Rattle.ns_laws.proofs.reach.own_by_pool.Goals as goal

pub returns : goal.returns
returns c = own_by_pool

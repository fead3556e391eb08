use Rattle.ns_laws.proofs.Scope.Sharing.{apart_uses_its_pools}
use Rattle.ns_laws.proofs.sharing.apart_uses_its_pools.Goals as goal

pub returns : goal.returns
returns c = apart_uses_its_pools

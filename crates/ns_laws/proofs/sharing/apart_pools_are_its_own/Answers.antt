use Rattle.ns_laws.proofs.Scope.Sharing.{apart_pools_are_its_own}
use Rattle.ns_laws.proofs.sharing.apart_pools_are_its_own.Goals as goal

pub returns : goal.returns
returns c = apart_pools_are_its_own

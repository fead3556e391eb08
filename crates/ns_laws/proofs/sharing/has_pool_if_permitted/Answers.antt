use Rattle.ns_laws.proofs.Scope.Unshared.{has_pool_if_permitted}
use Rattle.ns_laws.proofs.sharing.has_pool_if_permitted.Goals as goal

pub returns : goal.returns
returns c = has_pool_if_permitted

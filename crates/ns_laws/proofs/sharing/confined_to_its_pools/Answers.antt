use Rattle.ns_laws.proofs.Scope.Sharing.{confined_to_its_pools}
use Rattle.ns_laws.proofs.sharing.confined_to_its_pools.Goals as goal

pub returns : goal.returns
returns c = confined_to_its_pools

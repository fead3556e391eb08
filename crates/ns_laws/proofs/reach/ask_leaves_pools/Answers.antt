use Rattle.ns_laws.proofs.Scope.Asks.{ask_leaves_pools}
use Rattle.ns_laws.proofs.reach.ask_leaves_pools.Goals as goal

pub returns : goal.returns
returns c = ask_leaves_pools

use Rattle.ns_laws.proofs.Access.Lists.{list_shows_readable_pools}
use Rattle.ns_laws.proofs.secrets.list_shows_readable_pools.Goals as goal

pub returns : goal.returns
returns c = list_shows_readable_pools

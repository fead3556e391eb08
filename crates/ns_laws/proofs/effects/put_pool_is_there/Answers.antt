use Rattle.ns_laws.proofs.Effect.Admins.{put_pool_is_there}
use Rattle.ns_laws.proofs.effects.put_pool_is_there.Goals as goal

pub returns : goal.returns
returns c = put_pool_is_there

use Rattle.ns_laws.proofs.Effect.Admins.{put_quota_is_there}
use Rattle.ns_laws.proofs.effects.put_quota_is_there.Goals as goal

pub returns : goal.returns
returns c = put_quota_is_there

use Rattle.ns_laws.proofs.Effect.Admins.{deleted_quota_is_gone}
use Rattle.ns_laws.proofs.effects.deleted_quota_is_gone.Goals as goal

pub returns : goal.returns
returns c = deleted_quota_is_gone

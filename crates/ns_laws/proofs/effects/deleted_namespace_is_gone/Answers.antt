use Rattle.ns_laws.proofs.Effect.Admins.{deleted_namespace_is_gone}
use Rattle.ns_laws.proofs.effects.deleted_namespace_is_gone.Goals as goal

pub returns : goal.returns
returns c = deleted_namespace_is_gone

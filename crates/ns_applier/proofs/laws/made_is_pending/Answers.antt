use Rattle.ns_applier.proofs.Renewing.{made_is_pending}
use Rattle.ns_applier.proofs.laws.made_is_pending.Goals as goal

pub returns : goal.returns
returns c = made_is_pending

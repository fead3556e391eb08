use Rattle.ns_laws.proofs.Wakes.Reasons.{woken_is_pending}
use Rattle.ns_laws.proofs.woken.woken_is_pending.Goals as goal

pub returns : goal.returns
returns c = woken_is_pending

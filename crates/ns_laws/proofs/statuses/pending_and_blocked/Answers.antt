use Rattle.ns_laws.proofs.Meanings.{pending_and_blocked}
use Rattle.ns_laws.proofs.statuses.pending_and_blocked.Goals as goal

pub returns : goal.returns
returns c = pending_and_blocked

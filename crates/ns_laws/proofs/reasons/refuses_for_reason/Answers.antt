use Rattle.ns_laws.proofs.Refusal.Reasons.{refuses_for_reason}
use Rattle.ns_laws.proofs.reasons.refuses_for_reason.Goals as goal

pub returns : goal.returns
returns c = refuses_for_reason

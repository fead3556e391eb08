use Rattle.ns_laws.proofs.Refusal.Reasons.{first_refusal}
use Rattle.ns_laws.proofs.reasons.first_refusal.Goals as goal

pub returns : goal.returns
returns c = first_refusal

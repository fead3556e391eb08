use Rattle.ns_laws.proofs.Refusal.Reasons.{not_found_is_missing}
use Rattle.ns_laws.proofs.reasons.not_found_is_missing.Goals as goal

pub returns : goal.returns
returns c = not_found_is_missing

use Rattle.ns_laws.proofs.Refusal.Reasons.{past_bound_is_full}
use Rattle.ns_laws.proofs.reasons.past_bound_is_full.Goals as goal

pub returns : goal.returns
returns c = past_bound_is_full

use Rattle.ns_laws.proofs.Reading.Documents.{policy_is_shown}
use Rattle.ns_laws.proofs.reads.policy_is_shown.Goals as goal

pub returns : goal.returns
returns c = policy_is_shown

use Rattle.ns_documents.proofs.Good.{policy_good}
use Rattle.ns_documents.proofs.policy.read_policy.Goals as goal

pub returns-clause-good : goal.returns-clause-good
returns-clause-good c = policy_good _ _ c.policy.ensures

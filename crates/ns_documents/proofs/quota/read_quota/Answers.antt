use Rattle.ns_documents.proofs.Good.{quota_good, quota_has_name}
use Rattle.ns_documents.proofs.quota.read_quota.Goals as goal

pub returns-clause-good : goal.returns-clause-good
returns-clause-good c = quota_good _ _ _ c.quota.ensures

pub returns-clause-name : goal.returns-clause-name
returns-clause-name c = quota_has_name _ _ _ c.quota.ensures

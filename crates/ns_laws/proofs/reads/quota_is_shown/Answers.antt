use Rattle.ns_laws.proofs.Reading.Documents.{quota_is_shown}
use Rattle.ns_laws.proofs.reads.quota_is_shown.Goals as goal

pub returns : goal.returns
returns c = quota_is_shown

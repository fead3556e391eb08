use Rattle.ns_laws.proofs.Reading.Requests.{namespace_is_shown}
use Rattle.ns_laws.proofs.reads.namespace_is_shown.Goals as goal

pub returns : goal.returns
returns c = namespace_is_shown

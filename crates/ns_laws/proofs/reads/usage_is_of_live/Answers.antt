use Rattle.ns_laws.proofs.Reading.Requests.{usage_is_of_live}
use Rattle.ns_laws.proofs.reads.usage_is_of_live.Goals as goal

pub returns : goal.returns
returns c = usage_is_of_live

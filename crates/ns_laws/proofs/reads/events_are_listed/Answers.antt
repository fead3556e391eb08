use Rattle.ns_laws.proofs.Reading.Requests.{events_are_listed}
use Rattle.ns_laws.proofs.reads.events_are_listed.Goals as goal

pub returns : goal.returns
returns c = events_are_listed

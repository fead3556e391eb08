use Rattle.ns_laws.proofs.Reading.Requests.{allocations_are_listed}
use Rattle.ns_laws.proofs.reads.allocations_are_listed.Goals as goal

pub returns : goal.returns
returns c = allocations_are_listed

use Rattle.ns_laws.proofs.Reading.Requests.{allocation_is_shown}
use Rattle.ns_laws.proofs.reads.allocation_is_shown.Goals as goal

pub returns : goal.returns
returns c = allocation_is_shown

use Rattle.ns_laws.proofs.Sending.Taking.{closed_by_the_last}
use Rattle.ns_laws.proofs.requests.closed_by_the_last.Goals as goal

pub returns : goal.returns
returns c = closed_by_the_last

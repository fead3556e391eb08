use Rattle.ns_laws.proofs.Sending.Taking.{bytes_are_the_requests}
use Rattle.ns_laws.proofs.requests.bytes_are_the_requests.Goals as goal

pub returns : goal.returns
returns c = bytes_are_the_requests

use Rattle.ns_laws.proofs.Sending.Framing.{last_requests}
use Rattle.ns_laws.proofs.wire.last_requests.Goals as goal

pub returns : goal.returns
returns c = last_requests

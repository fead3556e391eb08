use Rattle.ns_pipe.proofs.Requests.{requested_read}
use Rattle.ns_pipe.proofs.written.laws.requested_is_as_read.Goals as goal

pub returns : goal.returns
returns g c = requested_read g.D.Draws.draws

use Rattle.ns_pipe.proofs.Requests.{worked_read}
use Rattle.ns_pipe.proofs.written.laws.worked_is_as_read.Goals as goal

pub returns : goal.returns
returns c = worked_read

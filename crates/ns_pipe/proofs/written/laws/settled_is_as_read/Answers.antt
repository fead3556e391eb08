use Rattle.ns_pipe.proofs.Settled.{settled_read}
use Rattle.ns_pipe.proofs.written.laws.settled_is_as_read.Goals as goal

pub returns : goal.returns
returns c = settled_read

use Rattle.ns_pipe.proofs.Texts.{segments_back}
use Rattle.ns_pipe.proofs.written.laws.segments_are_read_back.Goals as goal

pub returns : goal.returns
returns c = segments_back

use Rattle.ns_laws.proofs.Reading.Steps.{reads_change_nothing}
use Rattle.ns_laws.proofs.reads.reads_change_nothing.Goals as goal

pub returns : goal.returns
returns c = reads_change_nothing

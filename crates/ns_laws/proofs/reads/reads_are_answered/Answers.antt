use Rattle.ns_laws.proofs.Reading.Steps.{reads_are_answered}
use Rattle.ns_laws.proofs.reads.reads_are_answered.Goals as goal

pub returns : goal.returns
returns c = reads_are_answered

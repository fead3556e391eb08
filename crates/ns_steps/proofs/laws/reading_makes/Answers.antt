use Rattle.ns_steps.proofs.Reading.{reads_make}
use Rattle.ns_steps.proofs.laws.reading_makes.Goals as goal

pub returns : goal.returns
returns c = λ step s result allowed within served only h. reads_make step s allowed within served only result h

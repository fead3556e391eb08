use Rattle.ns_steps.proofs.Telling.{reading_rests}
use Rattle.ns_steps.proofs.laws.reading_rests.Goals as goal

pub returns : goal.returns
returns c = λ step s s' answer served only e. reading_rests step s s' answer served only e

use Rattle.ns_steps.proofs.Telling.{served_decides}
use Rattle.ns_steps.proofs.laws.served_decides.Goals as goal

pub returns : goal.returns
returns c = λ step s served e. served_decides step s served e

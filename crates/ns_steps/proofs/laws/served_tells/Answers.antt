use Rattle.ns_steps.proofs.Telling.{served_tells}
use Rattle.ns_steps.proofs.laws.served_tells.Goals as goal

pub returns : goal.returns
returns c = λ step s s' reply served e. served_tells step s s' reply served e

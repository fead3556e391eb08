use Rattle.ns_laws.proofs.Calling.{call_is_one_step}
use Rattle.ns_laws.proofs.calls.call_is_one_step.Goals as goal

pub returns : goal.returns
returns c = call_is_one_step

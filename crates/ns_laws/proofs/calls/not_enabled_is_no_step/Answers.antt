use Rattle.ns_laws.proofs.Calling.{not_enabled_is_no_step}
use Rattle.ns_laws.proofs.calls.not_enabled_is_no_step.Goals as goal

pub returns : goal.returns
returns c = not_enabled_is_no_step

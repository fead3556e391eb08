use Rattle.ns_laws.proofs.Texts.Limiting.{registration_limits}
use Rattle.ns_laws.proofs.limits.registration_limits.Goals as goal

pub returns : goal.returns
returns c = registration_limits

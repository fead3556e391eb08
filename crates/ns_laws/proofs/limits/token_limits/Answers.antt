use Rattle.ns_laws.proofs.Texts.Limiting.{token_limits}
use Rattle.ns_laws.proofs.limits.token_limits.Goals as goal

pub returns : goal.returns
returns c = token_limits

use Rattle.ns_laws.proofs.Texts.Limiting.{others_have_no_limits}
use Rattle.ns_laws.proofs.limits.others_have_no_limits.Goals as goal

pub returns : goal.returns
returns c = others_have_no_limits

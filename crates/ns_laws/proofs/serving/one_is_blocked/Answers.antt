use Rattle.ns_laws.proofs.Service.Lists.{one_is_blocked}
use Rattle.ns_laws.proofs.serving.one_is_blocked.Goals as goal

pub returns : goal.returns
returns c = one_is_blocked

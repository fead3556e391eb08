use Rattle.ns_laws.proofs.Sending.Heads.{head_limits}
use Rattle.ns_laws.proofs.requests.head_limits.Goals as goal

pub returns : goal.returns
returns c = head_limits

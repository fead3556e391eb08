use Rattle.ns_laws.proofs.Sending.Taking.{refused_head_is_left}
use Rattle.ns_laws.proofs.requests.refused_head_is_left.Goals as goal

pub returns : goal.returns
returns c = refused_head_is_left

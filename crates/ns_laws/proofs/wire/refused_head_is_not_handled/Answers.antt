use Rattle.ns_laws.proofs.Sending.Conversing.{refused_head_is_not_handled}
use Rattle.ns_laws.proofs.wire.refused_head_is_not_handled.Goals as goal

pub returns : goal.returns
returns c = refused_head_is_not_handled

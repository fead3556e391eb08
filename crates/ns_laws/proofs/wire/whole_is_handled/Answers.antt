use Rattle.ns_laws.proofs.Sending.Conversing.{whole_is_handled}
use Rattle.ns_laws.proofs.wire.whole_is_handled.Goals as goal

pub returns : goal.returns
returns c = whole_is_handled

use Rattle.ns_laws.proofs.Sending.Responding.{responses_in_order}
use Rattle.ns_laws.proofs.wire.responses_in_order.Goals as goal

pub returns : goal.returns
returns c = responses_in_order

use Rattle.ns_laws.proofs.Sending.Conversing.{conversation_splits}
use Rattle.ns_laws.proofs.wire.conversation_splits.Goals as goal

pub returns : goal.returns
returns c = conversation_splits

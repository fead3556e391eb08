use Rattle.ns_laws.proofs.Sending.Framing.{messages_are_small}
use Rattle.ns_laws.proofs.wire.messages_are_small.Goals as goal

pub returns : goal.returns
returns c = messages_are_small

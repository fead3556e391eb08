use Rattle.ns_laws.proofs.Sending.Taking.{taken_are_messages}
use Rattle.ns_laws.proofs.requests.taken_are_messages.Goals as goal

pub returns : goal.returns
returns c = taken_are_messages

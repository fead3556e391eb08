use Rattle.ns_laws.proofs.Sending.Framing.{codings_are_refused}
use Rattle.ns_laws.proofs.wire.codings_are_refused.Goals as goal

pub returns : goal.returns
returns c = codings_are_refused

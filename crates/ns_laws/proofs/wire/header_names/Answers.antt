use Rattle.ns_laws.proofs.Sending.Framing.{header_names}
use Rattle.ns_laws.proofs.wire.header_names.Goals as goal

pub returns : goal.returns
returns c = header_names

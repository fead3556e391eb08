use Rattle.ns_laws.proofs.Sending.Framing.{no_length_no_body}
use Rattle.ns_laws.proofs.wire.no_length_no_body.Goals as goal

pub returns : goal.returns
returns c = no_length_no_body

use Rattle.ns_laws.proofs.Sending.Framing.{closes_by_head}
use Rattle.ns_laws.proofs.wire.closes_by_head.Goals as goal

pub returns : goal.returns
returns c = closes_by_head

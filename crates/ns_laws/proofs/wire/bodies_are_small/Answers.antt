use Rattle.ns_laws.proofs.Sending.Framing.{bodies_are_small}
use Rattle.ns_laws.proofs.wire.bodies_are_small.Goals as goal

pub returns : goal.returns
returns c = bodies_are_small

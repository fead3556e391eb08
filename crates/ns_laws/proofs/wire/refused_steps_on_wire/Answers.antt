use Rattle.ns_laws.proofs.Sending.Responding.{refused_steps_on_wire}
use Rattle.ns_laws.proofs.wire.refused_steps_on_wire.Goals as goal

pub returns : goal.returns
returns c = refused_steps_on_wire

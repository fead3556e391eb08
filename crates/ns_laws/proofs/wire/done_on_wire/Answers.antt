use Rattle.ns_laws.proofs.Sending.Responding.{done_on_wire}
use Rattle.ns_laws.proofs.wire.done_on_wire.Goals as goal

pub returns : goal.returns
returns c = done_on_wire

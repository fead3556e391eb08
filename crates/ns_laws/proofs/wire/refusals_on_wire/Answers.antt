use Rattle.ns_laws.proofs.Sending.Responding.{refusals_on_wire}
use Rattle.ns_laws.proofs.wire.refusals_on_wire.Goals as goal

pub returns : goal.returns
returns c = refusals_on_wire

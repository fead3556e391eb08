use Rattle.ns_laws.proofs.Sending.Responding.{fields_on_wire}
use Rattle.ns_laws.proofs.wire.fields_on_wire.Goals as goal

pub returns : goal.returns
returns c = fields_on_wire

use Rattle.ns_laws.proofs.Sending.Responding.{head_faults_on_wire}
use Rattle.ns_laws.proofs.wire.head_faults_on_wire.Goals as goal

pub returns : goal.returns
returns c = head_faults_on_wire

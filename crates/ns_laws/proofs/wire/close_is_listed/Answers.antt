use Rattle.ns_laws.proofs.Sending.Closing.{close_is_listed}
use Rattle.ns_laws.proofs.wire.close_is_listed.Goals as goal

pub returns : goal.returns
returns c = close_is_listed

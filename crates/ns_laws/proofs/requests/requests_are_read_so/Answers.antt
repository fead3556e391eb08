use Rattle.ns_laws.proofs.Sending.Heads.{are_read_so}
use Rattle.ns_laws.proofs.requests.requests_are_read_so.Goals as goal

pub returns : goal.returns
returns c = are_read_so

use Rattle.ns_laws.proofs.Sending.Taking.{last_one_closes}
use Rattle.ns_laws.proofs.requests.last_one_closes.Goals as goal

pub returns : goal.returns
returns c = last_one_closes

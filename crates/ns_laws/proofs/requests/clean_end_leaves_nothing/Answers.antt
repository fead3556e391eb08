use Rattle.ns_laws.proofs.Sending.Taking.{clean_end_leaves_nothing}
use Rattle.ns_laws.proofs.requests.clean_end_leaves_nothing.Goals as goal

pub returns : goal.returns
returns c = clean_end_leaves_nothing

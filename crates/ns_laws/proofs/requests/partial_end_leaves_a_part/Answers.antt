use Rattle.ns_laws.proofs.Sending.Taking.{partial_end_leaves_a_part}
use Rattle.ns_laws.proofs.requests.partial_end_leaves_a_part.Goals as goal

pub returns : goal.returns
returns c = partial_end_leaves_a_part

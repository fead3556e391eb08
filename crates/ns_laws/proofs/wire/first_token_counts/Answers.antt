use Rattle.ns_laws.proofs.Sending.Framing.{first_token_counts}
use Rattle.ns_laws.proofs.wire.first_token_counts.Goals as goal

pub returns : goal.returns
returns c = first_token_counts

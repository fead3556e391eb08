use Rattle.ns_laws.proofs.Sending.Framing.{one_length_counts}
use Rattle.ns_laws.proofs.wire.one_length_counts.Goals as goal

pub returns : goal.returns
returns c = one_length_counts

use Rattle.ns_laws.proofs.Sending.Framing.{two_lengths_are_bad}
use Rattle.ns_laws.proofs.wire.two_lengths_are_bad.Goals as goal

pub returns : goal.returns
returns c = two_lengths_are_bad

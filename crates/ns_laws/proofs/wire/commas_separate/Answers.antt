use Rattle.ns_laws.proofs.Sending.Framing.{commas_separate}
use Rattle.ns_laws.proofs.wire.commas_separate.Goals as goal

pub returns : goal.returns
returns c = commas_separate

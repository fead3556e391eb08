use Rattle.ns_broker.proofs.Submitted.{has_work}
use Rattle.ns_broker.proofs.laws.sound_has_work.Goals as goal

pub returns : goal.returns
returns c = has_work

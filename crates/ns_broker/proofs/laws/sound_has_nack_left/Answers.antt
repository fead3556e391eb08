use Rattle.ns_broker.proofs.Making.{nack_left}
use Rattle.ns_broker.proofs.laws.sound_has_nack_left.Goals as goal

pub returns : goal.returns
returns c = nack_left

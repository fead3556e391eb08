use Rattle.ns_laws.proofs.Work.Nack.{nacked_is_given_back}
use Rattle.ns_laws.proofs.workers.nacked_is_given_back.Goals as goal

pub returns : goal.returns
returns c = nacked_is_given_back

use Rattle.ns_laws.proofs.Service.Lists.{workers_have_their_own}
use Rattle.ns_laws.proofs.serving.workers_have_their_own.Goals as goal

pub returns : goal.returns
returns c = workers_have_their_own

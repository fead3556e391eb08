use Rattle.ns_audit.proofs.RefusalLemmas.{workers_are_full_only}
use Rattle.ns_laws.proofs.refusals.workers_are_full_only.Goals as goal

pub returns : goal.returns
returns c = workers_are_full_only

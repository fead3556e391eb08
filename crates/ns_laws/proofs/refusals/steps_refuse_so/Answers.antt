use Rattle.ns_audit.proofs.RefusalLemmas.{steps_refuse_so}
use Rattle.ns_laws.proofs.refusals.steps_refuse_so.Goals as goal

pub returns : goal.returns
returns c = steps_refuse_so

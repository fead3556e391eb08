use Rattle.ns_audit.proofs.RefusalLemmas.{denied_alike}
use Rattle.ns_laws.proofs.refusals.denied_alike.Goals as goal

pub returns : goal.returns
returns c = denied_alike

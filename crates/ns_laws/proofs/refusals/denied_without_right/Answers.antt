use Rattle.ns_audit.proofs.RefusalLemmas.{denied_without_right}
use Rattle.ns_laws.proofs.refusals.denied_without_right.Goals as goal

pub returns : goal.returns
returns c = denied_without_right

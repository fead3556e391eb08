use Rattle.ns_applier.proofs.Applied.{apply_pass}
use Rattle.ns_applier.proofs.headroom.laws.passes_by_apply.Goals as goal

pub returns : goal.returns
returns c = apply_pass

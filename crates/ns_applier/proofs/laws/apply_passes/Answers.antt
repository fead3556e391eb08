use Rattle.ns_applier.proofs.Counting.{apply_passes_is}
use Rattle.ns_applier.proofs.laws.apply_passes.Goals as goal

pub returns : goal.returns
returns c = apply_passes_is

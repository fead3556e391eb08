use Rattle.ns_applier.proofs.Raised.{counts_pass}
use Rattle.ns_applier.proofs.headroom.laws.passes_by_counts.Goals as goal

pub returns : goal.returns
returns c = counts_pass

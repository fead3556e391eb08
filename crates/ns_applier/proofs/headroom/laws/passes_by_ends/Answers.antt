use Rattle.ns_applier.proofs.Settled.{ends_pass}
use Rattle.ns_applier.proofs.headroom.laws.passes_by_ends.Goals as goal

pub returns : goal.returns
returns c = ends_pass

use Rattle.ns_laws.proofs.Plans.Surplus.{snapshots_are_orderly}
use Rattle.ns_laws.proofs.surplus.snapshots_are_orderly.Goals as goal

pub returns : goal.returns
returns c = snapshots_are_orderly

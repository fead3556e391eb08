use Rattle.std.proofs.Common.{subst}
use Rattle.ns_tables.specs.Allocations.{IsTotalOf}
use Rattle.ns_tables.proofs.allocations.AllocationTable.live_total.Goals as goal

pub returns : goal.returns
returns c = subst (λ t. IsTotalOf c.self.inside.live t.slots) c.self.view_is c.self.invariant.total

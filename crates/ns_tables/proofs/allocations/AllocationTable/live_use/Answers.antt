use Rattle.std.proofs.Common.{subst, sym, ap, ◌∙◌}
use Rattle.ns_types.specs.State.Resources.{IsCounted}
use Rattle.ns_tables.specs.Allocations.{live_use}
use Rattle.ns_types.proofs.Amounts.{total_exact}
use Rattle.ns_tables.proofs.allocations.AllocationTable.live_use.Goals as goal

pub returns : goal.returns
returns c = total_exact c.self.inside.live (live_use c.self.inside.slots) c.self.invariant.total
    (subst (λ t. IsCounted (live_use t.slots)) (sym c.self.view_is) c.requires) ∙ ap (λ t. live_use t.slots) c.self.view_is

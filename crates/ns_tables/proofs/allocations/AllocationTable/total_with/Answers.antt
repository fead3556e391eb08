use Rattle.std.proofs.Common.{subst}
use Rattle.keyed.specs.Over.{over}
use Rattle.keyed.specs.Table.{rows}
use Rattle.ns_tables.proofs.Totals.{total_moved}
use Rattle.ns_types.proofs.Amounts.{total_counted}
use Rattle.ns_tables.specs.Allocations.{live_use, rows_use}
use Rattle.ns_types.specs.State.Resources.{IsTotal}
use Rattle.ns_tables.proofs.allocations.AllocationTable.total_with.Goals as goal

pub total_after-requires : goal.total_after-requires
total_after-requires c = total_counted c.self.inside.live (live_use c.self.inside.slots) c.self.invariant.total

pub returns : goal.returns
returns c =
    let total = c.total_after in
    subst (λ t. IsTotal total.result (rows_use (over (rows t.slots) c.args.changes.now))) c.self.view_is
    (total_moved c.self.inside.slots c.args.changes.now c.as_slice.result.now c.self.inside.live total.result
    c.as_slice.ensures c.self.invariant.total total.ensures.counted total.ensures.moved)

use Rattle.std.proofs.Common.{refl}
use Rattle.ns_tables.proofs.Totals.{still_kept}
use Rattle.ns_tables.proofs.allocations.AllocationTable.reserve_all.Goals as goal

pub invariant_of-self : goal.invariant_of-self
invariant_of-self c = still_kept c.self.inside.jobs c.self.inside.jobs c.self.inside.live c.self.inside.slots c.reserve_all.new.self c.self.invariant
    (λ key. refl) c.reserve_all.ensures.rows

pub invariant_of-self-2 : goal.invariant_of-self-2
invariant_of-self-2 c = still_kept c.self.inside.jobs c.reserve_all-2.new.numbers c.self.inside.live c.self.inside.slots c.reserve_all.new.self
    c.self.invariant c.reserve_all-2.ensures.same.held c.reserve_all.ensures.rows

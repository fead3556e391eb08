use Rattle.std.proofs.Common.{sym, subst}
use Rattle.keyed.specs.Owned.{NoneAtBound}
use Rattle.keyed.proofs.AtBound.{none-remove}
use Rattle.keyed.proofs.owner_table.OwnerTable.remove.Goals as goal

pub invariant_of-self : goal.invariant_of-self
invariant_of-self g c none = subst (NoneAtBound g.V.Bounded.at_bound) (sym c.remove.ensures)
    (none-remove g.V.Bounded.at_bound c.self.inside.table (c.self.invariant none) c.args.key.now)

use Rattle.std.proofs.Common.{sym, subst}
use Rattle.keyed.specs.Owned.{NoneAtBound}
use Rattle.keyed.proofs.AtBound.{none-with_slot}
use Rattle.keyed.proofs.owner_table.OwnerTable.reserve.Goals as goal

pub invariant_of-self-2 : goal.invariant_of-self-2
invariant_of-self-2 g c none = subst (NoneAtBound g.V.Bounded.at_bound) (sym c.in_ok-reserve.ensures.ok)
    (none-with_slot g.V.Bounded.at_bound c.self.inside.table (c.self.invariant none) c.args.key.now)

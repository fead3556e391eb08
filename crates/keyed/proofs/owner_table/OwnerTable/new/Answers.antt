use Rattle.std.proofs.Common.{sym, subst}
use Rattle.keyed.specs.Owned.{NoneAtBound}
use Rattle.keyed.proofs.AtBound.{none-empty}
use Rattle.keyed.proofs.owner_table.OwnerTable.new.Goals as goal

pub invariant_of-result : goal.invariant_of-result
invariant_of-result g c _ = subst (NoneAtBound g.V.Bounded.at_bound) (sym c.new.ensures) (none-empty g.V.Bounded.at_bound)

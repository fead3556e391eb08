use Rattle.std.proofs.Common.{sym, subst, ◌∙◌}
use Rattle.keyed.specs.Owned.{NoneAtBound}
use Rattle.keyed.proofs.AtBound.{none-insert}
use Rattle.ns_types.proofs.Lists.{left_none, right_none}
use Rattle.keyed.proofs.owner_table.OwnerTable.set.Goals as goal

pub invariant_of-self : goal.invariant_of-self
invariant_of-self g c none = subst (NoneAtBound g.V.Bounded.at_bound) (sym c.set.ensures)
    (none-insert g.V.Bounded.at_bound c.self.inside.table (c.self.invariant (left_none _ _ none)) c.args.key.now c.args.row
    (sym c.is_at_bound.ensures ∙ right_none c.self.inside.ever_at_bound _ none))

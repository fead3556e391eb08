use Rattle.std.proofs.Common.{ap, sym, ◌∙◌}
use Rattle.std.specs.List.{list_any}
use Rattle.keyed.specs.Table.{at_slot}
use Rattle.keyed.proofs.AtBound.{none-walked}
use Rattle.keyed.proofs.owner_table.OwnerTable.from_table.Goals as goal

pub invariant_of-result : goal.invariant_of-result
invariant_of-result g c none = none-walked g.V.Bounded.at_bound c.args.table
    (ap (list_any (at_slot (λ e. g.V.Bounded.at_bound e.1))) (sym c.as_slice.ensures) ∙ sym c.any_at_bound-ever_at_bound.ensures ∙ none)

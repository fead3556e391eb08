use Rattle.std.proofs.Common.{◌∙◌, T, sym, ap, subst}
use Rattle.std.specs.FinMap.{from_sorted}
use Rattle.std.specs.FinMap.Entries.{is_sorted}
use Rattle.std.specs.Ordering.{nat_cmp}
use Rattle.ns_types.proofs.Named.{numbers, one_number}
use Rattle.keyed.specs.Table.{without_vacant}
use Rattle.keyed.proofs.Tables.{sorted-without_vacant, from_sorted-without_vacant}
use Rattle.keyed.proofs.numbers.NumberTable.clear_slot.Goals as goal

pub invariant_of-self : goal.invariant_of-self
invariant_of-self g c = subst (λ es. T (is_sorted nat_cmp es)) (sym c.clear_slot.ensures) (sorted-without_vacant numbers c.args.key _ c.self.invariant)

pub returns : goal.returns
returns g c =
    ap from_sorted c.clear_slot.ensures ∙ from_sorted-without_vacant numbers one_number c.args.key _ c.self.invariant ∙
    ap (λ m. without_vacant m c.args.key) c.self.view_is

use Rattle.std.specs.Ordering.{nat_cmp}
use Rattle.std.specs.Prelude.{not}
use Rattle.std.specs.Ordering.{eq_by_cmp}
use Rattle.std.proofs.Common.{◌∙◌, T, sym, ap, subst}
use Rattle.std.specs.FinMap.{from_sorted, remove}
use Rattle.std.specs.FinMap.Entries.{is_sorted}
use Rattle.ns_types.proofs.Named.{numbers, one_number}
use Rattle.keyed.proofs.Tables.{from_sorted-without}
use Rattle.keyed.proofs.Ordered.{is_sorted-filter}
use Rattle.keyed.proofs.numbers.NumberTable.remove.Goals as goal

pub invariant_of-self : goal.invariant_of-self
invariant_of-self g c =
    subst (λ es. T (is_sorted nat_cmp es)) (sym c.remove.ensures)
    (is_sorted-filter nat_cmp (λ e. not (eq_by_cmp nat_cmp c.args.key e.0)) c.self.inside.slots c.self.invariant)

pub returns : goal.returns
returns g c =
    ap from_sorted c.remove.ensures ∙ from_sorted-without numbers one_number _ _ c.self.invariant ∙ ap (λ m. remove m c.args.key) c.self.view_is

use Rattle.ns_types.specs.State.Names.{name_cmp}
use Rattle.std.specs.Prelude.{not}
use Rattle.std.specs.Ordering.{eq_by_cmp}
use Rattle.std.proofs.Common.{◌∙◌, T, sym, ap, subst}
use Rattle.std.specs.FinMap.{from_sorted, remove}
use Rattle.std.specs.FinMap.Entries.{is_sorted}
use Rattle.ns_types.proofs.Named.{names, one_name}
use Rattle.keyed.proofs.Tables.{from_sorted-without}
use Rattle.keyed.proofs.Ordered.{is_sorted-filter}
use Rattle.keyed.proofs.names.NameTable.remove.Goals as goal

pub invariant_of-self : goal.invariant_of-self
invariant_of-self g c =
    subst (λ es. T (is_sorted name_cmp es)) (sym c.remove.ensures)
    (is_sorted-filter name_cmp (λ e. not (eq_by_cmp name_cmp c.args.key.now e.0)) c.self.inside.slots c.self.invariant)

pub returns : goal.returns
returns g c =
    ap from_sorted c.remove.ensures ∙ from_sorted-without names one_name _ _ c.self.invariant ∙ ap (λ m. remove m c.args.key.now) c.self.view_is

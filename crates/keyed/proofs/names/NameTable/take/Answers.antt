use Rattle.std.proofs.Common.{◌∙◌, T, sym, ap, subst}
use Rattle.std.specs.FinMap.{from_sorted, get-from_sorted}
use Rattle.std.specs.FinMap.Entries.{is_sorted}
use Rattle.ns_types.specs.State.Names.{name_cmp}
use Rattle.ns_types.proofs.Named.{names}
use Rattle.keyed.specs.Table.{flat, row_at, emptied}
use Rattle.keyed.proofs.Tables.{sorted-emptied, from_sorted-emptied}
use Rattle.keyed.proofs.names.NameTable.take.Goals as goal

pub invariant_of-self : goal.invariant_of-self
invariant_of-self g c = subst (λ es. T (is_sorted name_cmp es)) (sym c.take.ensures.slots) (sorted-emptied names c.args.key.now _ c.self.invariant)

pub returns-clause-row : goal.returns-clause-row
returns-clause-row g c = c.take.ensures.row ∙ ap flat (sym (get-from_sorted name_cmp _ c.args.key.now c.self.invariant)) ∙
    ap (λ m. row_at m c.args.key.now) c.self.view_is

pub returns-clause-slots : goal.returns-clause-slots
returns-clause-slots g c =
    ap from_sorted c.take.ensures.slots ∙ from_sorted-emptied names c.args.key.now _ c.self.invariant ∙ ap (λ m. emptied m c.args.key.now) c.self.view_is

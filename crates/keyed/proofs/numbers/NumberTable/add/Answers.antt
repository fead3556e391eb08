use Rattle.std.proofs.Common.{◌∙◌, T, sym, ap, subst}
use Rattle.std.specs.FinMap.{from_sorted}
use Rattle.std.specs.FinMap.Entries.{is_sorted}
use Rattle.std.specs.Ordering.{nat_cmp}
use Rattle.ns_types.proofs.Named.{numbers}
use Rattle.keyed.specs.Table.{added}
use Rattle.keyed.proofs.Tables.{sorted-added, from_sorted-added}
use Rattle.keyed.proofs.numbers.NumberTable.add.Goals as goal

pub invariant_of-self-2 : goal.invariant_of-self-2
invariant_of-self-2 g c = subst (λ es. T (is_sorted nat_cmp es)) (sym c.in_ok-add.ensures.ok)
    (sorted-added numbers c.args.key c.args.row _ c.self.invariant)

pub returns-clause-ok : goal.returns-clause-ok
returns-clause-ok g c =
    ap from_sorted c.in_ok-add.ensures.ok ∙ from_sorted-added numbers c.args.key c.args.row _ c.self.invariant ∙
    ap (λ m. added m c.args.key c.args.row) c.self.view_is

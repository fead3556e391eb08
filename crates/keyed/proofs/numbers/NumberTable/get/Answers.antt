use Rattle.std.specs.Ordering.{nat_cmp}
use Rattle.std.proofs.Common.{◌∙◌, sym, ap}
use Rattle.std.specs.FinMap.{get-from_sorted}
use Rattle.keyed.specs.Table.{flat, row_at}
use Rattle.keyed.proofs.numbers.NumberTable.get.Goals as goal

pub returns : goal.returns
returns g c = c.get.ensures ∙ ap flat (sym (get-from_sorted nat_cmp _ c.args.key c.self.invariant)) ∙ ap (λ m. row_at m c.args.key) c.self.view_is

use Rattle.std.specs.Ordering.{nat_cmp}
use Rattle.std.proofs.Common.{◌∙◌, sym, ap}
use Rattle.std.specs.FinMap.{get, get-from_sorted}
use Rattle.keyed.proofs.numbers.NumberTable.slot.Goals as goal

pub returns : goal.returns
returns g c = c.slot.ensures ∙ sym (get-from_sorted nat_cmp _ c.args.key c.self.invariant) ∙ ap (λ m. get m c.args.key) c.self.view_is

use Rattle.std.specs.Ordering.{nat_cmp}
use Rattle.std.proofs.Common.{◌∙◌, sym, ap}
use Rattle.std.specs.FinMap.{entries, entries-from_sorted}
use Rattle.keyed.proofs.numbers.NumberTable.as_slice.Goals as goal

pub returns : goal.returns
returns g c = c.as_slice.ensures ∙ sym (entries-from_sorted nat_cmp _ c.self.invariant) ∙ ap entries c.self.view_is

use Rattle.std.proofs.Common.{◌∙◌, sym, ap}
use Rattle.std.specs.Prelude.{is_some}
use Rattle.std.specs.FinMap.{get-from_sorted}
use Rattle.std.specs.Ordering.{nat_cmp}
use Rattle.keyed.specs.Table.{has_slot}
use Rattle.keyed.proofs.numbers.NumberTable.has_slot.Goals as goal

pub returns : goal.returns
returns g c = c.has_slot.ensures ∙ ap is_some (sym (get-from_sorted nat_cmp _ c.args.key c.self.invariant)) ∙
    ap (λ m. has_slot m c.args.key) c.self.view_is

use Rattle.ns_types.specs.State.Names.{name_cmp}
use Rattle.std.proofs.Common.{◌∙◌, sym, ap}
use Rattle.std.specs.FinMap.{get-from_sorted}
use Rattle.keyed.specs.Table.{flat, row_at}
use Rattle.keyed.proofs.names.NameTable.get.Goals as goal

pub returns : goal.returns
returns g c = c.get.ensures ∙ ap flat (sym (get-from_sorted name_cmp _ c.args.key.now c.self.invariant)) ∙
    ap (λ m. row_at m c.args.key.now) c.self.view_is

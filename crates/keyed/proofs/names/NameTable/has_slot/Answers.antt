use Rattle.std.proofs.Common.{◌∙◌, sym, ap}
use Rattle.std.specs.Prelude.{is_some}
use Rattle.std.specs.FinMap.{get-from_sorted}
use Rattle.ns_types.specs.State.Names.{name_cmp}
use Rattle.keyed.specs.Table.{has_slot}
use Rattle.keyed.proofs.names.NameTable.has_slot.Goals as goal

pub returns : goal.returns
returns g c = c.has_slot.ensures ∙ ap is_some (sym (get-from_sorted name_cmp _ c.args.key.now c.self.invariant)) ∙
    ap (λ m. has_slot m c.args.key.now) c.self.view_is

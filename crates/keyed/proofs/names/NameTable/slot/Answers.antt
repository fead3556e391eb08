use Rattle.ns_types.specs.State.Names.{name_cmp}
use Rattle.std.proofs.Common.{◌∙◌, sym, ap}
use Rattle.std.specs.FinMap.{get, get-from_sorted}
use Rattle.keyed.proofs.names.NameTable.slot.Goals as goal

pub returns : goal.returns
returns g c = c.slot.ensures ∙ sym (get-from_sorted name_cmp _ c.args.key.now c.self.invariant) ∙ ap (λ m. get m c.args.key.now) c.self.view_is

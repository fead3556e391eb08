use Rattle.ns_types.specs.State.Names.{name_cmp}
use Rattle.std.proofs.Common.{◌∙◌, sym, ap}
use Rattle.std.specs.FinMap.{entries, entries-from_sorted}
use Rattle.keyed.proofs.names.NameTable.into_slots.Goals as goal

pub returns : goal.returns
returns g c = c.into_slots.ensures ∙ sym (entries-from_sorted name_cmp _ c.self.invariant) ∙ ap entries c.self.view_is

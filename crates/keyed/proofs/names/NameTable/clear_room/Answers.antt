use Rattle.ns_types.specs.State.Names.{name_cmp}
use Rattle.keyed.specs.Slots.{is_row}
use Rattle.std.proofs.Common.{◌∙◌, T, sym, ap, subst}
use Rattle.std.specs.Prelude.{is_some}
use Rattle.std.specs.FinMap.{from_sorted}
use Rattle.std.specs.FinMap.Entries.{is_sorted}
use Rattle.ns_types.proofs.Named.{names}
use Rattle.keyed.specs.Table.{rows, has_slot, row_at}
use Rattle.keyed.proofs.Tables.{rows-filled, has_slot-filled}
use Rattle.keyed.proofs.Ordered.{is_sorted-filter}
use Rattle.keyed.proofs.names.NameTable.clear_room.Goals as goal

pub invariant_of-self : goal.invariant_of-self
invariant_of-self g c = subst (λ es. T (is_sorted name_cmp es)) (sym c.clear_room.ensures)
    (is_sorted-filter name_cmp is_row c.self.inside.slots c.self.invariant)

pub returns-clause-rows : goal.returns-clause-rows
returns-clause-rows g c = ap (λ es. rows (from_sorted es)) c.clear_room.ensures ∙ rows-filled _ c.self.invariant ∙ ap rows c.self.view_is

pub returns-clause-slots : goal.returns-clause-slots
returns-clause-slots g c k =
    ap (λ es. has_slot (from_sorted {R = name_cmp} es) k) c.clear_room.ensures ∙ has_slot-filled names _ c.self.invariant k ∙
    ap (λ m. is_some (row_at m k)) c.self.view_is

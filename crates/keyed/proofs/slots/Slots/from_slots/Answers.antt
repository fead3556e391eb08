use Rattle.std.proofs.Common.{ap, ◌∙◌, length}
use Rattle.keyed.specs.Table.{row_list}
use Rattle.keyed.proofs.slots.Slots.from_slots.Goals as goal

pub invariant_of-result : goal.invariant_of-result
invariant_of-result g c = ((c.requires, c.count_rows-filled.ensures ∙ ap (λ es. length (row_list es)) c.as_slice.ensures.value), c.index_of-index.ensures)

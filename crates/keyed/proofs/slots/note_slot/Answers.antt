use Rattle.std.proofs.Common.{sym}
use Rattle.keyed.proofs.Known.{known_inserted, nothing_known}
use Rattle.keyed.proofs.slots.note_slot.Goals as goal

pub returns-then-is_known : goal.returns-then-is_known
returns-then-is_known g c =
    known_inserted c.args.known.now c.insert.new.self c.args.slots.now.items c.args.place c.index.result.now c.requires.place c.index.ensures
    c.requires.known c.insert.ensures

pub returns-else-is_power_of_two : goal.returns-else-is_power_of_two
returns-else-is_power_of_two g c = nothing_known _ _ (sym c.if-is_known.ensures)

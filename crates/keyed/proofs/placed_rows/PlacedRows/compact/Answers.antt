use Rattle.keyed.proofs.Queued.{same_rows}
use Rattle.keyed.proofs.placed_rows.PlacedRows.compact.Goals as goal

pub returns-then-len-as_slice-clause-rows : goal.returns-then-len-as_slice-clause-rows
returns-then-len-as_slice-clause-rows g c = same_rows c.args.self.now.rows c.clear_room.new.self c.clear_room.ensures.rows

use Rattle.std.proofs.Common.{refl, subst, sym}
use Rattle.keyed.specs.Levels.{Drops, has_place_room, holds_place, same_place}
use Rattle.keyed.specs.Queue.{LeavesPlace}
use Rattle.keyed.proofs.Queued.{at_key, row_taken, slots_taken}
use Rattle.keyed.proofs.placed_rows.PlacedRows.take.Goals as goal

pub returns-in_err-row-clause-left : goal.returns-in_err-row-clause-left
returns-in_err-row-clause-left g c = record {
  rows = row_taken c.args.self.now.rows c.take.new.self c.args.place c.take.ensures.slots;
  slots = slots_taken c.args.self.now.rows c.take.new.self c.args.place c.take.ensures.slots;
  places = subst (λ r. LeavesPlace g.R.Keyed.key_of c.args.place r c.args.self.now.places c.args.self.now.places) (sym c.from_residual.ensures) refl;
}

pub returns-clause-left : goal.returns-clause-left
returns-clause-left g c = record {
  rows = row_taken c.args.self.now.rows c.take.new.self c.args.place c.take.ensures.slots;
  slots = slots_taken c.args.self.now.rows c.take.new.self c.args.place c.take.ensures.slots;
  places = subst (λ q. Drops holds_place has_place_room same_place q c.args.self.now.places c.remove.new.self)
      (at_key c.args.place c.namespace.ensures c.number.ensures c.key-key.ensures) c.remove.ensures;
}

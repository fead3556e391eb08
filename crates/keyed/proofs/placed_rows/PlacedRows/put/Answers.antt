use Rattle.std.specs.Prelude.{IsTrue}
use Rattle.std.proofs.Common.{subst, sym}
use Rattle.keyed.specs.Levels.{Adds, has_place_room, holds_place, same_place}
use Rattle.keyed.proofs.Queued.{at_key, row_set, slots_set}
use Rattle.keyed.proofs.placed_rows.PlacedRows.put.Goals as goal

pub insert-requires : goal.insert-requires
insert-requires g c = subst (λ q. IsTrue (has_place_room c.args.self.now.places q))
    (sym (at_key c.args.place c.namespace.ensures c.number.ensures c.key-key.ensures)) c.requires.held

pub returns : goal.returns
returns g c = record {
  rows = row_set c.args.self.now.rows c.set.new.self c.args.place c.args.row c.set.ensures;
  slots = slots_set c.args.self.now.rows c.set.new.self c.args.place c.args.row c.set.ensures;
  places = subst (λ q. Adds holds_place has_place_room same_place q c.args.self.now.places c.insert.new.self)
      (at_key c.args.place c.namespace.ensures c.number.ensures c.key-key.ensures) c.insert.ensures;
}

use Rattle.std.proofs.Common.{ap, subst, ◌∙◌}
use Rattle.keyed.specs.Levels.{Drops, has_place_room, holds_place, same_place}
use Rattle.keyed.specs.Table.{rows}
use Rattle.keyed.proofs.Queued.{at_key, same_rows}
use Rattle.keyed.proofs.Tables.{rows-without_vacant}
use Rattle.ns_types.proofs.Named.{numbers, one_number}
use Rattle.keyed.proofs.placed_rows.PlacedRows.clear.Goals as goal

pub returns : goal.returns
returns g c = record {
  rows = same_rows c.args.self.now.rows c.clear_slot.new.self
      (ap rows c.clear_slot.ensures ∙ rows-without_vacant numbers one_number c.args.self.now.rows c.args.place);
  places = subst (λ q. Drops holds_place has_place_room same_place q c.args.self.now.places c.remove.new.self)
      (at_key c.args.place c.namespace.ensures c.number.ensures c.key-key.ensures) c.remove.ensures;
}

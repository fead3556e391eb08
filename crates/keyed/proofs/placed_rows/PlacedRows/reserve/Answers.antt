use Rattle.std.specs.Prelude.{IsTrue}
use Rattle.std.proofs.Common.{ap, subst, ◌∙◌}
use Rattle.keyed.specs.Levels.{has_place_room}
use Rattle.keyed.specs.Table.{row_at}
use Rattle.keyed.proofs.Levels.{row-with_slot}
use Rattle.keyed.proofs.Queued.{at_key, slots_made}
use Rattle.keyed.proofs.Tables.{slot_made}
use Rattle.ns_types.proofs.Named.{numbers, one_number}
use Rattle.keyed.proofs.placed_rows.PlacedRows.reserve.Goals as goal

pub returns-in_err-reserve-2-clause-same : goal.returns-in_err-reserve-2-clause-same
returns-in_err-reserve-2-clause-same g c = record {
  rows = λ n. ap (λ m. row_at m n) c.in_ok-reserve.ensures.ok ∙ row-with_slot numbers one_number c.args.self.now.rows c.args.place n;
  slots = slots_made c.args.self.now.rows c.reserve.new.self c.args.place c.in_ok-reserve.ensures.ok;
  places = c.reserve-2.ensures.same;
}

pub returns-clause-same : goal.returns-clause-same
returns-clause-same g c = record {
  rows = λ n. ap (λ m. row_at m n) c.in_ok-reserve.ensures.ok ∙ row-with_slot numbers one_number c.args.self.now.rows c.args.place n;
  slots = slots_made c.args.self.now.rows c.reserve.new.self c.args.place c.in_ok-reserve.ensures.ok;
  places = c.reserve-2.ensures.same;
}

pub returns-clause-ok : goal.returns-clause-ok
returns-clause-ok g c = record {
  slot = slot_made numbers _ _ _ c.in_ok-reserve.ensures.ok;
  held = subst (λ q. IsTrue (has_place_room c.reserve-2.new.self q)) (at_key c.args.place c.namespace.ensures c.number.ensures c.key-key.ensures)
      c.in_ok-reserve-2.ensures.ok;
}

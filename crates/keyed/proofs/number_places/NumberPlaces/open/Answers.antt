use Rattle.std.proofs.Common.{ap, sym, ◌∙◌}
use Rattle.std.specs.FinMap.{get}
use Rattle.keyed.specs.Table.{has_slot, row_at, with_slot}
use Rattle.keyed.proofs.Tables.{get-rows, rows-with_slot, slot_made}
use Rattle.ns_types.proofs.Named.{numbers, one_number}
use Rattle.keyed.specs.Levels.{holds_number}
use Rattle.keyed.specs.declared.number_places.NumberPlaces.{NumberPlaces}
use Rattle.keyed.proofs.Levels.{begun_in, no_number_yet, room_put_in}
use Rattle.keyed.proofs.number_places.NumberPlaces.open.Goals as goal

pub set-requires : goal.set-requires
set-requires c = slot_made numbers _ _ _ c.in_ok-reserve-2.ensures.ok

pub returns-clause-same : goal.returns-clause-same
returns-clause-same c = begun_in numbers one_number (λ (s : NumberPlaces). s.numbers) holds_number has_slot c.args.self.now
    (record { numbers = c.reserve-2.new.self }) _
    c.args.number _ c.in_ok-reserve-2.ensures.ok
    (ap (λ m. row_at m c.args.number) c.in_ok-reserve-2.ensures.ok
    ∙ sym (get-rows numbers (with_slot c.args.self.now.numbers c.args.number) c.args.number)
    ∙ ap (λ n. get n c.args.number) (rows-with_slot numbers one_number c.args.self.now.numbers c.args.number)
    ∙ get-rows numbers c.args.self.now.numbers c.args.number ∙ c.requires)
    (no_number_yet c.new-places.result _ c.args.place c.new-places.ensures c.in_ok-reserve.ensures.ok) c.set.ensures

pub returns-clause-ok : goal.returns-clause-ok
returns-clause-ok c = room_put_in numbers one_number (λ (s : NumberPlaces). s.numbers) holds_number has_slot
    (record { numbers = c.reserve-2.new.self }) _
    c.args.number _ c.set.ensures c.args.place (slot_made numbers _ _ _ c.in_ok-reserve.ensures.ok)

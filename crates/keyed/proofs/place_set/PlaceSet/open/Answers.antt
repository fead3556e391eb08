use Rattle.std.proofs.Common.{ap, sym, ◌∙◌}
use Rattle.std.specs.FinMap.{get}
use Rattle.keyed.specs.Table.{row_at, with_slot}
use Rattle.keyed.proofs.Tables.{get-rows, rows-with_slot, slot_made}
use Rattle.ns_types.proofs.Named.{names, numbers, one_name, one_number}
use Rattle.keyed.specs.Levels.{has_numbered_room, holds_number, holds_numbered}
use Rattle.keyed.specs.declared.number_places.NumberPlaces.{NumberPlaces}
use Rattle.keyed.specs.declared.place_set.PlaceSet.{PlaceSet}
use Rattle.keyed.proofs.Levels.{begun, nothing_in, room_put}
use Rattle.keyed.proofs.place_set.PlaceSet.open.Goals as goal

pub set-requires : goal.set-requires
set-requires c = slot_made names _ _ _ c.in_ok-reserve-2.ensures.ok

pub returns-clause-same : goal.returns-clause-same
returns-clause-same c = begun (λ (s : PlaceSet). s.names) holds_numbered has_numbered_room c.args.self.now
    (record { names = c.reserve-2.new.self }) _
    c.args.name.now _ c.in_ok-reserve-2.ensures.ok
    (ap (λ m. row_at m c.args.name.now) c.in_ok-reserve-2.ensures.ok
    ∙ sym (get-rows names (with_slot c.args.self.now.names c.args.name.now) c.args.name.now)
    ∙ ap (λ n. get n c.args.name.now) (rows-with_slot names one_name c.args.self.now.names c.args.name.now)
    ∙ get-rows names c.args.self.now.names c.args.name.now ∙ c.requires)
    (λ key. c.reserve.ensures.same.held key
    ∙ nothing_in numbers one_number (λ (s : NumberPlaces). s.numbers) holds_number c.new-numbers.result c.new-numbers.ensures key) c.set.ensures

pub returns-clause-ok : goal.returns-clause-ok
returns-clause-ok c = room_put (λ (s : PlaceSet). s.names) holds_numbered has_numbered_room (record { names = c.reserve-2.new.self }) _
    c.args.name.now _ c.set.ensures (c.args.number, c.args.place) c.in_ok-reserve.ensures.ok

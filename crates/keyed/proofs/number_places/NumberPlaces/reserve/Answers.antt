use Rattle.std.proofs.Common.{ap, refl, sym, ◌∙◌}
use Rattle.std.specs.Option.{option_copied_mut}
use Rattle.keyed.specs.Table.{has_slot}
use Rattle.keyed.proofs.Tables.{slot_made}
use Rattle.ns_types.proofs.Named.{numbers, one_number}
use Rattle.keyed.specs.Levels.{holds_number}
use Rattle.keyed.specs.declared.number_places.NumberPlaces.{NumberPlaces}
use Rattle.keyed.proofs.Levels.{keeps_in, keeps_same, number_room, room_in}
use Rattle.keyed.proofs.number_places.NumberPlaces.reserve.Goals as goal

pub open-requires : goal.open-requires
open-requires c = sym c.get_mut.ensures.value ∙ ap option_copied_mut c.in_default.is

pub returns-in_err-reserve-clause-same : goal.returns-in_err-reserve-clause-same
returns-in_err-reserve-clause-same c = keeps_in numbers one_number (λ (s : NumberPlaces). s.numbers) holds_number has_slot c.args.self.now _ c.args.number
    c.in-Some.places.now c.reserve.new.self (sym c.get_mut.ensures.value ∙ ap option_copied_mut c.in-Some.is) refl
    (keeps_same holds_number has_slot _ _ c.in_err-reserve.ensures.err)

pub returns-in-Some-clause-same : goal.returns-in-Some-clause-same
returns-in-Some-clause-same c = keeps_in numbers one_number (λ (s : NumberPlaces). s.numbers) holds_number has_slot c.args.self.now _ c.args.number
    c.in-Some.places.now c.reserve.new.self (sym c.get_mut.ensures.value ∙ ap option_copied_mut c.in-Some.is) refl
    (number_room _ _ _ c.in_ok-reserve.ensures.ok)

pub returns-in-Some-clause-ok : goal.returns-in-Some-clause-ok
returns-in-Some-clause-ok c = room_in numbers one_number (λ (s : NumberPlaces). s.numbers) holds_number has_slot c.args.self.now _ c.args.number
    c.in-Some.places.now c.reserve.new.self (sym c.get_mut.ensures.value ∙ ap option_copied_mut c.in-Some.is) refl c.args.place
    (slot_made numbers _ _ _ c.in_ok-reserve.ensures.ok)

use Rattle.std.proofs.Common.{ap, refl, sym, ◌∙◌}
use Rattle.std.specs.Option.{option_copied_mut}
use Rattle.keyed.specs.Table.{has_slot}
use Rattle.ns_types.specs.State.Names.{same_number}
use Rattle.ns_types.proofs.Named.{numbers, one_number}
use Rattle.keyed.specs.Levels.{holds_number}
use Rattle.keyed.specs.declared.number_places.NumberPlaces.{NumberPlaces}
use Rattle.keyed.proofs.Levels.{drops_in, drops_all_in, drops_none_in, no_number, no_number_room, no_slots, number_dropped, row_here}
use Rattle.keyed.proofs.number_places.NumberPlaces.remove.Goals as goal

pub returns-in_default : goal.returns-in_default
returns-in_default c = drops_none_in numbers one_number (λ (s : NumberPlaces). s.numbers) holds_number has_slot c.args.self.now c.args.number c.args.place
    same_number (sym c.get_mut.ensures.value ∙ ap option_copied_mut c.in_default.is)

pub returns-then-is_empty : goal.returns-then-is_empty
returns-then-is_empty c =
    let there = sym c.get_mut.ensures.value ∙ ap option_copied_mut c.in-Some.is in
    let left = drops_in numbers one_number (λ (s : NumberPlaces). s.numbers) holds_number has_slot c.args.self.now _ c.args.number c.in-Some.places.now
    c.remove.new.self there refl same_number c.args.place (number_dropped _ _ _ c.remove.ensures) in
    let none = no_slots c.remove.new.self c.as_slice.result.now c.as_slice.ensures (sym c.is_empty.ensures ∙ c.if-is_empty.true) in
    drops_all_in numbers one_number (λ (s : NumberPlaces). s.numbers) holds_number has_slot c.args.self.now _ _ c.args.number c.args.place same_number left
    c.remove.new.self (row_here numbers _ _ _ _ refl) (no_number c.remove.new.self none) (no_number_room c.remove.new.self none)
    c.remove-then-is_empty.ensures

pub returns-else-is_empty : goal.returns-else-is_empty
returns-else-is_empty c = drops_in numbers one_number (λ (s : NumberPlaces). s.numbers) holds_number has_slot c.args.self.now _ c.args.number
    c.in-Some.places.now c.remove.new.self (sym c.get_mut.ensures.value ∙ ap option_copied_mut c.in-Some.is) refl same_number c.args.place
    (number_dropped _ _ _ c.remove.ensures)

use Rattle.std.proofs.Common.{ap, refl, sym, ◌∙◌}
use Rattle.std.specs.Option.{option_copied_mut}
use Rattle.keyed.specs.Table.{has_slot}
use Rattle.ns_types.proofs.Named.{names, numbers, one_number}
use Rattle.keyed.specs.Levels.{has_numbered_room, holds_number, holds_numbered, same_numbered}
use Rattle.keyed.specs.declared.number_places.NumberPlaces.{NumberPlaces}
use Rattle.keyed.specs.declared.place_set.PlaceSet.{PlaceSet}
use Rattle.keyed.proofs.Levels.{drops_at, drops_all, drops_none, nothing_in, row_here}
use Rattle.keyed.proofs.place_set.PlaceSet.remove.Goals as goal

pub returns-in_default : goal.returns-in_default
returns-in_default c = drops_none (λ (s : PlaceSet). s.names) holds_numbered has_numbered_room c.args.self.now c.args.name.now
    (c.args.number, c.args.place) same_numbered (sym c.get_mut.ensures.value ∙ ap option_copied_mut c.in_default.is)

pub returns-then-is_empty : goal.returns-then-is_empty
returns-then-is_empty c =
    let there = sym c.get_mut.ensures.value ∙ ap option_copied_mut c.in-Some.is in
    let left = drops_at (λ (s : PlaceSet). s.names) holds_numbered has_numbered_room c.args.self.now _ c.args.name.now c.in-Some.numbers.now
    c.remove.new.self there refl same_numbered (c.args.number, c.args.place) c.remove.ensures in
    let none = c.is_empty.ensures c.if-is_empty.true in
    drops_all (λ (s : PlaceSet). s.names) holds_numbered has_numbered_room c.args.self.now _ _ c.args.name.now (c.args.number, c.args.place)
    same_numbered left c.remove.new.self (row_here names _ _ _ _ refl)
    (nothing_in numbers one_number (λ (s : NumberPlaces). s.numbers) holds_number c.remove.new.self none)
    (nothing_in numbers one_number (λ (s : NumberPlaces). s.numbers) has_slot c.remove.new.self none) c.remove-then-is_empty.ensures

pub returns-else-is_empty : goal.returns-else-is_empty
returns-else-is_empty c = drops_at (λ (s : PlaceSet). s.names) holds_numbered has_numbered_room c.args.self.now _ c.args.name.now
    c.in-Some.numbers.now c.remove.new.self (sym c.get_mut.ensures.value ∙ ap option_copied_mut c.in-Some.is) refl same_numbered
    (c.args.number, c.args.place) c.remove.ensures

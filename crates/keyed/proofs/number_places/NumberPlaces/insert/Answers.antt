use Rattle.std.proofs.Common.{ap, refl, sym, ◌∙◌}
use Rattle.std.specs.Option.{option_copied_mut}
use Rattle.keyed.specs.Table.{has_slot}
use Rattle.ns_types.proofs.Named.{numbers, one_number}
use Rattle.ns_types.specs.State.Names.{same_number}
use Rattle.keyed.specs.Levels.{holds_number}
use Rattle.keyed.specs.declared.number_places.NumberPlaces.{NumberPlaces}
use Rattle.keyed.proofs.Levels.{adds_in, number_added}
use Rattle.keyed.proofs.number_places.NumberPlaces.insert.Goals as goal

pub returns-in-Some : goal.returns-in-Some
returns-in-Some c = adds_in numbers one_number (λ (s : NumberPlaces). s.numbers) holds_number has_slot c.args.self.now _ c.args.number c.in-Some.places.now
    c.set.new.self (sym c.get_mut.ensures.value ∙ ap option_copied_mut c.in-Some.is) refl same_number c.args.place (number_added _ _ _ c.set.ensures)

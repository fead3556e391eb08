use Rattle.std.proofs.Common.{ap, refl, sym, ◌∙◌}
use Rattle.std.specs.Option.{option_copied_mut}
use Rattle.keyed.specs.Levels.{has_numbered_room, holds_numbered, same_numbered}
use Rattle.keyed.specs.declared.place_set.PlaceSet.{PlaceSet}
use Rattle.keyed.proofs.Levels.{adds_at}
use Rattle.keyed.proofs.place_set.PlaceSet.insert.Goals as goal

pub returns-in-Some : goal.returns-in-Some
returns-in-Some c = adds_at (λ (s : PlaceSet). s.names) holds_numbered has_numbered_room c.args.self.now _ c.args.name.now c.in-Some.numbers.now
    c.insert.new.self (sym c.get_mut.ensures.value ∙ ap option_copied_mut c.in-Some.is) refl same_numbered (c.args.number, c.args.place) c.insert.ensures

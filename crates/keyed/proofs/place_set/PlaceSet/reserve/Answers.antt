use Rattle.std.proofs.Common.{ap, refl, sym, ◌∙◌}
use Rattle.std.specs.Option.{option_copied_mut}
use Rattle.keyed.specs.Levels.{has_numbered_room, holds_numbered}
use Rattle.keyed.specs.declared.place_set.PlaceSet.{PlaceSet}
use Rattle.keyed.proofs.Levels.{keeps_at, room_here}
use Rattle.keyed.proofs.place_set.PlaceSet.reserve.Goals as goal

pub open-requires : goal.open-requires
open-requires c = sym c.get_mut.ensures.value ∙ ap option_copied_mut c.in_default.is

pub returns-in_err-reserve-clause-same : goal.returns-in_err-reserve-clause-same
returns-in_err-reserve-clause-same c = keeps_at (λ (s : PlaceSet). s.names) holds_numbered has_numbered_room c.args.self.now _ c.args.name.now
    c.in-Some.numbers.now c.reserve.new.self (sym c.get_mut.ensures.value ∙ ap option_copied_mut c.in-Some.is) refl c.reserve.ensures.same

pub returns-in-Some-clause-same : goal.returns-in-Some-clause-same
returns-in-Some-clause-same c = keeps_at (λ (s : PlaceSet). s.names) holds_numbered has_numbered_room c.args.self.now _ c.args.name.now
    c.in-Some.numbers.now c.reserve.new.self (sym c.get_mut.ensures.value ∙ ap option_copied_mut c.in-Some.is) refl c.reserve.ensures.same

pub returns-in-Some-clause-ok : goal.returns-in-Some-clause-ok
returns-in-Some-clause-ok c = room_here (λ (s : PlaceSet). s.names) holds_numbered has_numbered_room c.args.self.now _ c.args.name.now
    c.in-Some.numbers.now c.reserve.new.self (sym c.get_mut.ensures.value ∙ ap option_copied_mut c.in-Some.is) refl (c.args.number, c.args.place)
    c.in_ok-reserve.ensures.ok

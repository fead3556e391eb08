use Rattle.std.proofs.Common.{ap, refl, sym, ◌∙◌}
use Rattle.std.specs.Option.{option_copied_mut}
use Rattle.keyed.specs.Table.{has_slot}
use Rattle.ns_types.specs.State.Names.{same_number}
use Rattle.keyed.specs.Levels.{holds_number}
use Rattle.keyed.specs.declared.key_set.KeySet.{KeySet}
use Rattle.keyed.proofs.Levels.{adds_at, number_added}
use Rattle.keyed.proofs.key_set.KeySet.insert.Goals as goal

pub returns-in-Some : goal.returns-in-Some
returns-in-Some c = adds_at (λ (s : KeySet). s.numbers) holds_number has_slot c.args.self.now _ c.args.name.now c.in-Some.numbers.now c.set.new.self
    (sym c.get_mut.ensures.value ∙ ap option_copied_mut c.in-Some.is) refl same_number c.args.number (number_added _ _ _ c.set.ensures)

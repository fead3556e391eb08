use Rattle.std.specs.Prelude.{IsTrue}
use Rattle.std.proofs.Common.{subst, sym}
use Rattle.keyed.proofs.Levels.{drops_nothing, not_true}
use Rattle.ns_types.proofs.Named.{same_key_refl}
use Rattle.keyed.proofs.key_set.KeySet.clear.Goals as goal

pub returns-then-not-has-clause-held : goal.returns-then-not-has-clause-held
returns-then-not-has-clause-held c = drops_nothing c.args.self.now c.remove.new.self (c.args.name.now, c.args.number) c.remove.ensures
    (sym c.if-not-has.ensures)

pub returns-then-not-has-clause-room : goal.returns-then-not-has-clause-room
returns-then-not-has-clause-room c room = not_true (subst IsTrue
    (c.remove.ensures.gone (c.args.name.now, c.args.number) (same_key_refl (c.args.name.now, c.args.number))) room)

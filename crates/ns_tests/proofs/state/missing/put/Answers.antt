use Rattle.std.proofs.Common.{IsTrue, sym, subst}
use Rattle.ns_types.proofs.Named.{names}
use Rattle.keyed.specs.Table.{has_slot}
use Rattle.keyed.proofs.Tables.{has_slot-with_slot_here}
use Rattle.ns_tests.proofs.state.missing.put.Goals as goal

pub set-requires : goal.set-requires
set-requires g c = subst (λ m. IsTrue (has_slot m c.args.name.now)) (sym c.reserve.ensures) (has_slot-with_slot_here names _ _)

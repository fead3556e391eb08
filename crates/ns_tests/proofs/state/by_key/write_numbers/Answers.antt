use Rattle.std.proofs.Common.{IsTrue, sym, subst}
use Rattle.ns_types.proofs.Named.{numbers}
use Rattle.keyed.specs.Table.{has_slot}
use Rattle.keyed.proofs.Tables.{has_slot-with_slot_here}
use Rattle.ns_tests.proofs.state.by_key.write_numbers.Goals as goal

pub set-requires : goal.set-requires
set-requires g c = subst (λ m. IsTrue (has_slot m 6)) (sym c.reserve_number-3.ensures) (has_slot-with_slot_here numbers _ _)

pub set-requires-2 : goal.set-requires-2
set-requires-2 g c = subst (λ m. IsTrue (has_slot m 1)) (sym c.reserve_number-4.ensures) (has_slot-with_slot_here numbers _ _)

use Rattle.std.proofs.Common.{IsTrue, sym, subst}
use Rattle.ns_types.proofs.Named.{names}
use Rattle.keyed.specs.Table.{has_slot}
use Rattle.keyed.proofs.Tables.{has_slot-with_slot_here}
use Rattle.ns_tests.proofs.state.by_key.writes_names.Goals as goal

pub set-requires : goal.set-requires
set-requires g c = subst (λ m. IsTrue (has_slot m c.args.web.now)) (sym c.reserve_name.ensures) (has_slot-with_slot_here names _ _)

pub set-requires-2 : goal.set-requires-2
set-requires-2 g c = subst (λ m. IsTrue (has_slot m c.args.api.now)) (sym c.reserve_name-2.ensures) (has_slot-with_slot_here names _ _)

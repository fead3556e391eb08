use Rattle.std.proofs.Common.{subst, sym}
use Rattle.std.specs.Prelude.{IsTrue}
use Rattle.keyed.specs.Table.{has_slot}
use Rattle.keyed.proofs.Tables.{has_slot-with_slot_here}
use Rattle.ns_types.proofs.Named.{names}
use Rattle.ns_plan_result.proofs.answering.add_name.Goals as goal

pub set-requires : goal.set-requires
set-requires c = subst (λ m. IsTrue (has_slot m c.args.name.now)) (sym c.in_ok-reserve.ensures.ok)
    (has_slot-with_slot_here names c.args.table.now c.args.name.now)

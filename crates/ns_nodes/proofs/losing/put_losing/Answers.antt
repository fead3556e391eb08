use Rattle.std.proofs.Common.{sym, subst}
use Rattle.std.specs.Prelude.{IsTrue}
use Rattle.keyed.specs.Table.{has_slot}
use Rattle.keyed.proofs.Tables.{has_slot-with_slot_here}
use Rattle.ns_types.proofs.Named.{names}
use Rattle.ns_nodes.proofs.losing.put_losing.Goals as goal

pub set-requires : goal.set-requires
set-requires c = subst (λ m. IsTrue (has_slot m c.args.row.now.job)) (sym c.in_ok-reserve.ensures.ok)
    (has_slot-with_slot_here names c.args.losing.now c.args.row.now.job)

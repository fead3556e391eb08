use Rattle.keyed.proofs.Tables.{slot_made}
use Rattle.ns_types.proofs.Named.{names}
use Rattle.ns_admin.proofs.Written.{rows_single}
use Rattle.ns_admin.proofs.beginning.single.Goals as goal

pub set-requires : goal.set-requires
set-requires g c = slot_made names _ _ _ c.in_ok-reserve.ensures.ok

pub returns : goal.returns
returns g c = rows_single _ _ _ _ _ c.new-table.ensures c.in_ok-reserve.ensures.ok c.set.ensures

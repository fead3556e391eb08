use Rattle.keyed.proofs.Tables.{row_put, slot_made}
use Rattle.ns_types.proofs.Named.{names, one_name}
use Rattle.ns_acl.proofs.tables.put.Goals as goal

pub set-requires : goal.set-requires
set-requires g c = slot_made names _ _ _ c.in_ok-reserve.ensures.ok

pub returns-clause-ok : goal.returns-clause-ok
returns-clause-ok g c = row_put names one_name _ _ _ _ _ c.in_ok-reserve.ensures.ok c.set.ensures

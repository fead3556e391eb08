use Rattle.ns_core.proofs.Copying.{copy_kept, same_state}
use Rattle.ns_queues.proofs.Together.{unknown_is_right}
use Rattle.ns_core.proofs.parts.Parts.copy.Goals as goal

pub copy-requires-2 : goal.copy-requires-2
copy-requires-2 c = c.requires.valid.world

pub returns-clause-same : goal.returns-clause-same
returns-clause-same c = same_state c.args.self.now
    (record { acl = c.in_ok-acl.acl; tables = c.in_ok-tables.tables; live = c.in_ok-live.live; turns = c.unknown-turns.result }) c.in_ok-acl.ensures
    (record { live = c.in_ok-live.ensures; turns = unknown_is_right _ c.unknown-turns.result c.unknown-turns.ensures }) c.requires c.in_ok-tables.ensures

pub returns-clause-kept : goal.returns-clause-kept
returns-clause-kept c = copy_kept c.args.self.now
    (record { acl = c.in_ok-acl.acl; tables = c.in_ok-tables.tables; live = c.in_ok-live.live; turns = c.unknown-turns.result }) c.in_ok-acl.ensures
    (record { live = c.in_ok-live.ensures; turns = unknown_is_right _ c.unknown-turns.result c.unknown-turns.ensures }) c.requires c.in_ok-tables.ensures

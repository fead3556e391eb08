use Rattle.ns_core.proofs.Copying.{alone_kept, state_alone}
use Rattle.ns_queues.proofs.Together.{unknown_is_right}
use Rattle.ns_core.proofs.parts.Parts.alone.Goals as goal

pub alone-requires : goal.alone-requires
alone-requires c = c.requires.kept.valid.world

pub returns-clause-part : goal.returns-clause-part
returns-clause-part c = state_alone c.args.self.now
    (record { acl = c.in_ok-acl.acl; tables = c.in_ok-tables.tables; live = c.in_ok-live.live; turns = c.unknown-turns.result }) c.in_ok-acl.ensures
    (record { live = c.in_ok-live.ensures; turns = unknown_is_right _ c.unknown-turns.result c.unknown-turns.ensures }) c.requires.kept
    c.args.namespace.now c.args.pools.now c.args.quotas.now c.in_ok-tables.ensures

pub returns-clause-kept : goal.returns-clause-kept
returns-clause-kept c = alone_kept c.args.self.now
    (record { acl = c.in_ok-acl.acl; tables = c.in_ok-tables.tables; live = c.in_ok-live.live; turns = c.unknown-turns.result }) c.in_ok-acl.ensures
    (record { live = c.in_ok-live.ensures; turns = unknown_is_right _ c.unknown-turns.result c.unknown-turns.ensures }) c.requires.kept c.args.namespace.now
    c.args.pools.now c.args.quotas.now c.in_ok-tables.ensures c.requires.apart

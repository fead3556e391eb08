use Rattle.ns_broker.proofs.Seen.{node_made}
use Rattle.ns_tables.specs.World.{world_of}
use Rattle.ns_broker.proofs.snapshot.pool.made_node.Goals as goal

pub returns : goal.returns
returns c = node_made (world_of c.args.tables.now) c.args.pool.now c.args.name.now c.args.row.now _ _ _ _ c.in_ok-copy.ensures.cases c.in_ok-present.ensures
    c.in_ok-seen.ensures c.into_node.result c.into_node.ensures

use Rattle.std.proofs.Common.{◌++◌, ap}
use Rattle.std.proofs.Math.ListN.{drop_of_length-le}
use Rattle.std.specs.Prelude.{flat_map}
use Rattle.keyed.proofs.Queues.{from_here}
use Rattle.ns_broker.proofs.Seen.{all_listed, listed_next, node_next}
use Rattle.ns_broker.specs.Seen.{node_at_slot}
use Rattle.ns_broker.proofs.snapshot.pool.nodes_in.Goals as goal
use Rattle.ns_tables.specs.World.{world_of}

pub loop-slot-init : goal.loop-slot-init
loop-slot-init c = record {
  listed = ap (λ nodes. nodes ++ flat_map (node_at_slot (world_of c.args.tables.now) c.args.pool.now) c.args.slots.now) c.new-nodes.ensures;
  right = c.requires.right;
  there = c.requires.there;
}

pub add_node-requires-clause-there : goal.add_node-requires-clause-there
add_node-requires-clause-there c = node_next (world_of c.args.tables.now) c.args.pool.now c.args.slots.now _ _ c.slot-item.result
    (from_here c.args.slots.now c.loop-slot.slot-index c.slot-item.result c.loop-slot-test.true c.slot-item.is) c.loop-slot.nodes c.loop-slot.live
    c.loop-slot.invariant

pub loop-slot-preserved : goal.loop-slot-preserved
loop-slot-preserved c = listed_next (world_of c.args.tables.now) c.args.pool.now c.args.slots.now _ _ c.slot-item.result
    (from_here c.args.slots.now c.loop-slot.slot-index c.slot-item.result c.loop-slot-test.true c.slot-item.is) c.loop-slot.nodes c.loop-slot.live
    c.loop-slot.invariant c.add_node.new.nodes c.add_node.new.live c.in_ok-add_node.ensures.nodes c.add_node.ensures.right

pub returns-clause-nodes : goal.returns-clause-nodes
returns-clause-nodes c = all_listed (world_of c.args.tables.now) c.args.pool.now c.args.slots.now c.loop-slot.nodes c.loop-slot.live _
    (drop_of_length-le c.args.slots.now c.loop-slot-test.false) c.loop-slot.invariant

use Rattle.std.proofs.Common.{subst}
use Rattle.std.proofs.Math.ListN.{drop_of_length-le}
use Rattle.keyed.proofs.Queues.{from_here}
use Rattle.ns_queues.proofs.Taken.{Taking, all_taken, one_taken}
use Rattle.ns_queues.proofs.ready.take_all.Goals as goal
use Rattle.ns_tables.specs.World.{world_of}

pub loop-key-preserved : goal.loop-key-preserved
loop-key-preserved c = one_taken (world_of c.args.tables.now) c.args.keys.now c.args.levels.now c.loop-key.levels c.take_out.new.levels
    c.key-item.result _ (subst (Taking (world_of c.args.tables.now) c.args.keys.now c.args.levels.now c.loop-key.levels)
    (from_here c.args.keys.now c.loop-key.key-index c.key-item.result c.loop-key-test.true c.key-item.is) c.loop-key.invariant)
    c.priority_before.result c.priority_before.ensures c.take_out.ensures.others c.take_out.ensures.here c.take_out.ensures.room

pub returns-clause-keys : goal.returns-clause-keys
returns-clause-keys c = all_taken (world_of c.args.tables.now) c.args.keys.now c.args.levels.now c.loop-key.levels _
    (drop_of_length-le c.args.keys.now c.loop-key-test.false) c.loop-key.invariant

use Rattle.std.proofs.Common.{refl}
use Rattle.ns_change.specs.Settled.{settled_world}
use Rattle.ns_queues.proofs.Together.{right_after}
use Rattle.ns_queues.proofs.turns.Turns.follow.Goals as goal
use Rattle.ns_tables.specs.World.{world_of}

pub returns-else-not-is_blocked-clause-right : goal.returns-else-not-is_blocked-clause-right
returns-else-not-is_blocked-clause-right c = let w = world_of c.args.tables.now in
    right_after w (settled_world w c.args.settled.now) c.args.self.now _ refl c.follow.ensures (c.follow-is_ready.ensures.right c.if-not-is_ready.false)
    (c.follow-is_blocked.ensures.right c.if-not-is_blocked.false)

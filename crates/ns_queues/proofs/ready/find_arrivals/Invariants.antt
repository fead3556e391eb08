use Rattle.std.proofs.Common.{◌≡◌, ℕ, take}
use Rattle.ns_change.specs.Settled.{settled_world}
use Rattle.ns_queues.specs.Ready.{group_at, of_priority}
use Rattle.ns_queues.proofs.ready.find_arrivals.Given as goal
use Rattle.ns_tables.specs.World.{world_of}

abbrev pub invariant-loop-key : goal.invariant-loop-key
invariant-loop-key l = (p : ℕ) → group_at l.by_priority p ≡ of_priority (settled_world (world_of l.tables) l.settled) p (take l.key-index l.key-items)

use Rattle.std.proofs.Common.{◌≡◌, None, fold, drop}
use Rattle.std.specs.Prelude.{option_copied}
use Rattle.ns_types.specs.Working.Queue.{priority_at}
use Rattle.ns_broker.specs.Serving.{preferred_at}
use Rattle.ns_broker.proofs.serving.served.Given as goal
use Rattle.ns_tables.specs.World.{world_of}

-- the one that is preferred so far
abbrev pub invariant-loop-slot : goal.invariant-loop-slot
invariant-loop-slot l = let p = preferred_at (priority_at (world_of l.tables)) in
    fold p (option_copied l.first) (drop l.slot-index l.slot-items) ≡ fold p None l.slot-items

use Rattle.ns_blocked.proofs.Rooms.{filled, room_there}
use Rattle.ns_blocked.proofs.list.BlockedList.append.Goals as goal

pub block-requires : goal.block-requires
block-requires c = room_there c.loop-entry.self c.loop-entry.self _ _ _ _ c.in-Some.ensures.steps.0 c.loop-entry.invariant

pub loop-entry-preserved : goal.loop-entry-preserved
loop-entry-preserved c = filled c.loop-entry.self c.block.new.self _ _ _ _ c.in-Some.ensures.steps.0 c.loop-entry.invariant c.block.ensures.entries
    c.block.ensures.room

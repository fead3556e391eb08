use Rattle.keyed.proofs.RoomLeft.{filled, place_left, room_there}
use Rattle.keyed.proofs.queue.Queue.append.Goals as goal

pub push-requires-clause-places : goal.push-requires-clause-places
push-requires-clause-places g c = place_left g.R.Keyed.key_of c.loop-row.self c.loop-row.self _ _ _ _ c.in-Some.ensures.steps.0 c.loop-row.invariant

pub push-requires-clause-room : goal.push-requires-clause-room
push-requires-clause-room g c = room_there g.R.Keyed.key_of c.loop-row.self c.loop-row.self _ _ _ _ c.in-Some.ensures.steps.0 c.loop-row.invariant

pub loop-row-preserved : goal.loop-row-preserved
loop-row-preserved g c = filled g.R.Keyed.key_of c.loop-row.self c.push.new.self _ _ _ _ c.in-Some.ensures.steps.0 c.loop-row.invariant
    c.push.ensures.items c.push.ensures.room

use Rattle.std.specs.Prelude.{List}
use Rattle.std.proofs.Common.{ap, sym, ◌∙◌}
use Rattle.ns_blocked.specs.declared.releases.ReleasedPool.{ReleasedPool}
use Rattle.ns_settlement.specs.Reached.{any_class, has_room}
use Rattle.ns_settlement.proofs.Reaching.{room_added, room_passed}
use Rattle.ns_settlement.proofs.reached.pools_of.Goals as goal
use Rattle.ns_settlement.proofs.reached.pools_of.Goals.{then-not-has_room+in_ok-pool_of+in_ok-push, else-not-has_room}

pub loop-room-preserved : goal.loop-room-preserved
loop-room-preserved c = elim c.if-not-has_room.branch [
  | then-not-has_room+in_ok-pool_of+in_ok-push w ↦ room_added c.args.rooms.now c.loop-room.room-index c.room-item.result c.loop-room-test.true
      c.room-item.is c.loop-room.pools c.loop-room.invariant w.in_ok-pool_of.field-0 c.if-not-has_room.pools w.in_ok-pool_of.ensures
      (w.pools-is ∙ w.in_ok-push.ensures.ok)
  | else-not-has_room w ↦ λ passes. ap (any_class passes) w.pools-is
      ∙ room_passed c.args.rooms.now c.loop-room.room-index c.room-item.result c.loop-room-test.true c.room-item.is c.loop-room.pools
      c.loop-room.invariant (sym (c.has_room.ensures ∙ ap (λ (pools : List ReleasedPool). has_room pools c.room-item.result) c.as_slice.ensures)
      ∙ w.if-not-has_room.false) passes
]

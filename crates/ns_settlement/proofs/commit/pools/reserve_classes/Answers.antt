use Rattle.std.proofs.Common.{sym, ap, subst, ◌∙◌, ◌≡◌, ◌+◌, drop}
use Rattle.std.proofs.Math.ListN.{drop_of_length-le}
use Rattle.ns_settlement.specs.Committed.{releases}
use Rattle.keyed.proofs.Queues.{from_here}
use Rattle.ns_settlement.proofs.Raised.{rest_is}
use Rattle.ns_settlement.proofs.Reserved.{PlacesMade, all_places, no_places, nodes_after, place_made, place_passed, pools_after, same_pools}
use Rattle.ns_settlement.proofs.commit.pools.reserve_classes.Goals as goal
use Rattle.ns_settlement.proofs.commit.pools.reserve_classes.Goals.{then-not-has_pool+in_ok-reserve_classes_in, else-not-has_pool}

pub loop-i-init : goal.loop-i-init
loop-i-init c = no_places c.args.table.now c.args.rooms.now

pub loop-i-preserved : goal.loop-i-preserved
loop-i-preserved c =
    let room = c.index-rooms-i.result in
    let is = from_here c.args.rooms.now c.loop-i.i room c.loop-i-test.true c.index-rooms-i.is in
    let more : releases (drop (c.loop-i.i + 1) c.args.rooms.now) room.0 ≡ c.has_pool.result =
    ap (λ rooms. releases rooms room.0) (sym (rest_is c.args.rooms.now (c.loop-i.i + 1))) ∙ sym c.has_pool.ensures in
    elim c.if-not-has_pool.branch [
      | then-not-has_pool+in_ok-reserve_classes_in w ↦ subst (λ m. PlacesMade m c.args.table.now _ c.args.rooms.now) (sym w.table-is)
          (place_made c.loop-i.table w.reserve_classes_in.new.table c.args.table.now room _ _ c.args.rooms.now is c.loop-i.invariant
          w.reserve_classes_in.ensures.rows w.in_ok-reserve_classes_in.ensures.room)
      | else-not-has_pool w ↦ place_passed c.loop-i.table c.if-not-has_pool.table c.args.table.now room _ _ c.args.rooms.now is c.loop-i.invariant
          (more ∙ w.if-not-has_pool.false) w.table-is
    ]

pub returns-in_err-reserve_classes_in-clause-pools : goal.returns-in_err-reserve_classes_in-clause-pools
returns-in_err-reserve_classes_in-clause-pools c = same_pools c.reserve_classes_in.new.table c.args.table.now
    (pools_after c.loop-i.table c.reserve_classes_in.new.table c.args.table.now c.index-rooms-i.result _ _ c.args.rooms.now
    (from_here c.args.rooms.now c.loop-i.i c.index-rooms-i.result c.loop-i-test.true c.index-rooms-i.is) c.loop-i.invariant c.reserve_classes_in.ensures.rows)

pub returns-in_err-reserve_classes_in-clause-nodes : goal.returns-in_err-reserve_classes_in-clause-nodes
returns-in_err-reserve_classes_in-clause-nodes c = nodes_after c.loop-i.table c.reserve_classes_in.new.table c.args.table.now c.index-rooms-i.result _ _
    c.args.rooms.now (from_here c.args.rooms.now c.loop-i.i c.index-rooms-i.result c.loop-i-test.true c.index-rooms-i.is) c.loop-i.invariant
    c.reserve_classes_in.ensures.rows

pub returns-clause-pools : goal.returns-clause-pools
returns-clause-pools c = same_pools c.loop-i.table c.args.table.now c.loop-i.invariant.pools

pub returns-clause-room : goal.returns-clause-room
returns-clause-room c = all_places c.loop-i.table c.args.table.now _ c.args.rooms.now (drop_of_length-le c.args.rooms.now c.loop-i-test.false)
    c.loop-i.invariant

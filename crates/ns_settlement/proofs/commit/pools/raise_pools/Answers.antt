use Rattle.std.proofs.Common.{refl, sym, ap, subst, ◌∙◌, ◌≡◌, ◌+◌, drop, true}
use Rattle.std.proofs.Math.ListN.{drop_of_length-le}
use Rattle.ns_settlement.specs.Committed.{raised_pool, releases}
use Rattle.ns_settlement.specs.Owners.{ChangesRow}
use Rattle.keyed.proofs.Queues.{from_here}
use Rattle.ns_settlement.proofs.Raised.{all_risen, can_rise, passed, rest_is, risen}
use Rattle.ns_settlement.proofs.commit.pools.raise_pools.Goals as goal
use Rattle.ns_settlement.proofs.commit.pools.raise_pools.Goals.{then-not-has_pool, else-not-has_pool}

pub loop-i-init : goal.loop-i-init
loop-i-init c = record { whole = λ q. refl; can = c.requires }

pub raise_pool-requires : goal.raise_pool-requires
raise_pool-requires c = can_rise (λ room. room.0) raised_pool (λ pool. pool.release) (λ pool. refl) c.loop-i.table c.loop-i.table c.index-rooms-i.result _ _ _
    (from_here c.args.rooms.now c.loop-i.i c.index-rooms-i.result c.loop-i-test.true c.index-rooms-i.is) c.loop-i.invariant

pub loop-i-preserved : goal.loop-i-preserved
loop-i-preserved c =
    let room = c.index-rooms-i.result in
    let rest = drop (c.loop-i.i + 1) c.args.rooms.now in
    let is = from_here c.args.rooms.now c.loop-i.i room c.loop-i-test.true c.index-rooms-i.is in
    let more : releases rest room.0 ≡ c.has_pool.result =
    ap (λ rooms. releases rooms room.0) (sym (rest_is c.args.rooms.now (c.loop-i.i + 1))) ∙ sym c.has_pool.ensures in
    elim c.if-not-has_pool.branch [
      | then-not-has_pool w ↦ risen (λ room. room.0) raised_pool (λ pool. pool.release) (λ pool. refl) c.loop-i.table c.if-not-has_pool.table room _ _ _ is
          c.loop-i.invariant (more ∙ w.if-not-has_pool.true)
          (subst (λ m. ChangesRow (λ a b. b ≡ raised_pool true a) room.0 c.loop-i.table m) (sym w.table-is) w.raise_pool.ensures)
      | else-not-has_pool w ↦ passed (λ room. room.0) raised_pool (λ pool. pool.release) (λ pool. refl) c.loop-i.table c.if-not-has_pool.table room _ _ _ is
          c.loop-i.invariant (more ∙ w.if-not-has_pool.false) w.table-is
    ]

pub returns : goal.returns
returns c = all_risen (λ room. room.0) raised_pool (λ pool. pool.release) (λ pool. refl) c.loop-i.table _ _
    (drop_of_length-le c.args.rooms.now c.loop-i-test.false) c.loop-i.invariant

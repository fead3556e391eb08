use Rattle.std.proofs.Common.{subst, sym}
use Rattle.ns_settlement.proofs.Whole.{index_stays}
use Rattle.ns_settlement.proofs.concluded.apply.Goals as goal
use Rattle.ns_queues.specs.Turns.{IsRight}
use Rattle.ns_tables.specs.World.{world_of}

pub returns-in-Ok-clause-index : goal.returns-in-Ok-clause-index
returns-in-Ok-clause-index c right = c.commit.ensures.index (index_stays c.args.tables.now c.reserve.new.tables c.args.live.now c.reserve.new.live
    c.reserve.ensures.world c.reserve.ensures.keys c.reserve.ensures.shown right)

pub returns-in-Err-clause-index : goal.returns-in-Err-clause-index
returns-in-Err-clause-index c = index_stays c.args.tables.now c.reserve.new.tables c.args.live.now c.reserve.new.live
    c.reserve.ensures.world c.reserve.ensures.keys c.reserve.ensures.shown

pub returns-in-Err-clause-turns : goal.returns-in-Err-clause-turns
returns-in-Err-clause-turns c right = subst (λ w. IsRight w c.reserve.new.turns) (sym c.reserve.ensures.world)
    (c.reserve.ensures.turns (world_of c.args.tables.now) right)

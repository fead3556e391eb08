use Rattle.keyed.proofs.RoomLeft.{all_taken, taken_next}
use Rattle.keyed.proofs.queue.Queue.take_out.Goals as goal

pub loop-key-preserved : goal.loop-key-preserved
loop-key-preserved g c = (
  taken_next g.R.Keyed.key_of c.args.keys.now c.loop-key.key-index c.key-item.result c.loop-key-test.true c.key-item.is _ _ _ c.take_key.ensures.items
      c.loop-key.invariant.0,
  λ more h. c.take_key.ensures.room more (c.loop-key.invariant.1 more h),
)

pub returns-clause-items : goal.returns-clause-items
returns-clause-items g c = all_taken g.R.Keyed.key_of c.args.keys.now c.loop-key.key-index c.loop-key-test.false _ _ c.loop-key.invariant.0

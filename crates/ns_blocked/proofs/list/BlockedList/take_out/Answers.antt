use Rattle.keyed.proofs.RoomLeft.{all_taken, taken_next}
use Rattle.ns_blocked.specs.declared.entry.BlockedEvaluation.{BlockedEvaluation}
use Rattle.ns_blocked.proofs.list.BlockedList.take_out.Goals as goal

pub loop-key-preserved : goal.loop-key-preserved
loop-key-preserved c = (
  taken_next (λ (e : BlockedEvaluation). e.key) c.args.keys.now c.loop-key.key-index c.key-item.result c.loop-key-test.true c.key-item.is _ _ _
      c.untrack.ensures.entries c.loop-key.invariant.0,
  λ es h. c.untrack.ensures.room es (c.loop-key.invariant.1 es h),
)

pub returns-clause-entries : goal.returns-clause-entries
returns-clause-entries c = all_taken (λ (e : BlockedEvaluation). e.key) c.args.keys.now c.loop-key.key-index c.loop-key-test.false _ _
    c.loop-key.invariant.0

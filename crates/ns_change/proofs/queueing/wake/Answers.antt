use Rattle.std.proofs.Common.{ap, ◌∙◌, ◌+◌, fold, drop}
use Rattle.ns_types.specs.Working.Queue.{queue}
use Rattle.ns_change.specs.Changed.{view}
use Rattle.ns_change.proofs.Listed.{fold_more, woken_all}
use Rattle.ns_change.proofs.Waking.{unblock_one}
use Rattle.ns_change.proofs.queueing.wake.Goals as goal

pub returns : goal.returns
returns c = woken_all c.args.tables.now c.args.keys.now c.args.change.now c.loop-key.change c.loop-key-2.change c.take_out.new.list c.loop-key.key-index
    c.loop-key-2.key-index
    c.loop-key-test.false c.loop-key-2-test.false c.loop-key.invariant c.in_ok-take_out.ensures c.loop-key-2.invariant

pub loop-key-preserved : goal.loop-key-preserved
loop-key-preserved c = ap (λ w. fold unblock_one w (drop (c.loop-key.key-index + 1) c.args.keys.now)) c.in_ok-set_status.ensures
    ∙ fold_more unblock_one c.args.keys.now c.loop-key.key-index c.key-item.result (view c.args.tables.now c.loop-key.change) _
    c.loop-key-test.true c.key-item.is c.loop-key.invariant

pub loop-key-2-preserved : goal.loop-key-2-preserved
loop-key-2-preserved c = ap (λ w. fold queue w (drop (c.loop-key-2.key-index + 1) c.args.keys.now)) c.in_ok-queue.ensures
    ∙ fold_more queue c.args.keys.now c.loop-key-2.key-index c.key-item-in-loop-key-2.result (view c.args.tables.now c.loop-key-2.change) _
    c.loop-key-2-test.true c.key-item-in-loop-key-2.is c.loop-key-2.invariant

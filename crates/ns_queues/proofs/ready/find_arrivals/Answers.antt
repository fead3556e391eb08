use Rattle.std.proofs.Common.{◌++◌, ap, ◌∙◌}
use Rattle.keyed.proofs.Mapped.{take_all}
use Rattle.ns_change.specs.Settled.{settled_world}
use Rattle.ns_queues.specs.Ready.{group_at, keys_of, of_priority}
use Rattle.ns_queues.proofs.Taken.{none_put, one_more}
use Rattle.ns_queues.proofs.ready.find_arrivals.Goals as goal
use Rattle.ns_tables.specs.World.{world_of}

pub loop-key-init : goal.loop-key-init
loop-key-init c = none_put c.new-by_priority.result c.new-by_priority.ensures

pub loop-key-preserved : goal.loop-key-preserved
loop-key-preserved c = one_more (settled_world (world_of c.args.tables.now) c.args.settled.now) c.as_slice-key-items.result.now c.loop-key.key-index
    c.key-item.result c.loop-key-test.true c.key-item.is c.loop-key.by_priority c.put.new.groups c.loop-key.invariant
    (λ q. c.in_ok-put.ensures q
    ∙ (λ i. group_at c.loop-key.by_priority q ++ keys_of q (c.priority_after-priority.ensures i) (c.in_ok-clone.ensures.cases i)))

pub returns : goal.returns
returns c q = c.loop-key.invariant q ∙ ap (of_priority (settled_world (world_of c.args.tables.now) c.args.settled.now) q)
    (take_all c.as_slice-key-items.result.now c.loop-key.key-index c.loop-key-test.false ∙ c.as_slice-key-items.ensures)

use Rattle.std.proofs.Common.{ap, ◌∙◌}
use Rattle.ns_types.specs.Settling.Making.{change_tenant}
use Rattle.ns_types.specs.Working.Work.{new_worker, with_worker}
use Rattle.ns_broker.proofs.taking.take.Goals as goal
use Rattle.ns_change.proofs.Prepares.{done_as}
use Rattle.ns_change.specs.Changed.{view, without_ready}

pub returns : goal.returns
returns c = done_as c.take_ready.result c.args.tables.now c.take_ready.new.change _ _
    (ap (without_ready c.args.key.now) (c.in_ok-put_row.ensures ∙ (λ i. change_tenant (c.namespace.ensures i)
    (with_worker c.args.number ((c.new_worker-worker.ensures ∙ (λ j. new_worker (c.number.ensures j) c.args.row.now)) i))
    (view c.args.tables.now c.args.change.now))))
    (c.take_ready.ensures c.args.tables.now)

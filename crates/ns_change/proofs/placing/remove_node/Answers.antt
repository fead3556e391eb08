use Rattle.std.proofs.Common.{ap, ◌∙◌, subst}
use Rattle.ns_types.proofs.Results.{on_ok}
use Rattle.ns_change.specs.Changed.{view, without_node}
use Rattle.ns_change.specs.Opened.{OpenedPool}
use Rattle.ns_change.proofs.Pools.{put_open_pool}
use Rattle.ns_change.proofs.placing.remove_node.Goals as goal

pub returns : goal.returns
returns c = on_ok c.remove_among-removed.result
    (λ law. ap (λ m. view c.args.tables.now (record c.open_pool.new.change { pools = m })) c.set.ensures
    ∙ put_open_pool c.args.tables.now c.args.change.now c.open_pool.new.change c.args.pool.now (without_node c.args.name.now) c.in-Some.changed
    c.remove_among-removed.new.changed
    (subst (λ x. OpenedPool c.args.tables.now c.args.change.now c.args.pool.now x c.open_pool.new.change) c.in-Some.is c.in_ok-changed.ensures)
    law)
    c.remove_among-removed.ensures

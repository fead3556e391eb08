use Rattle.std.proofs.Common.{◌≡◌, ap, ◌∙◌, subst, Some}
use Rattle.ns_types.specs.Settling.Making.{with_node}
use Rattle.ns_types.proofs.Results.{on_ok}
use Rattle.ns_change.specs.Changed.{view}
use Rattle.ns_change.specs.Opened.{OpenedPool}
use Rattle.ns_change.proofs.Pools.{put_open_pool}
use Rattle.ns_change.proofs.placing.put_node.Goals as goal

pub returns-in-Ok-Some : goal.returns-in-Ok-Some
returns-in-Ok-Some c =
    let is : c.in-Ok-Some.field-0 ≡ Some c.in-Ok-Some.changed = cc in
    on_ok c.put_among-put.result
    (λ law. ap (λ m. view c.args.tables.now (record c.open_pool.new.change { pools = m })) c.set.ensures
    ∙ put_open_pool c.args.tables.now c.args.change.now c.open_pool.new.change c.args.pool.now (with_node c.args.name.now c.args.row) c.in-Ok-Some.changed
    c.put_among-put.new.changed
    (subst (λ x. OpenedPool c.args.tables.now c.args.change.now c.args.pool.now x c.open_pool.new.change) is c.in-Ok-Some.ensures)
    law)
    c.put_among-put.ensures

use Rattle.std.proofs.Common.{ap, ◌∙◌, subst}
use Rattle.ns_types.specs.Working.Work.{without_worker}
use Rattle.ns_types.proofs.Results.{on_ok}
use Rattle.ns_change.specs.Changed.{view}
use Rattle.ns_change.specs.Opened.{Opened}
use Rattle.ns_change.proofs.Opening.{put_open}
use Rattle.ns_change.proofs.workers.remove_worker.Goals as goal

pub returns : goal.returns
returns c = on_ok c.remove_among-removed.result
    (λ law. ap (λ m. view c.args.tables.now (record c.open.new.change { tenants = m })) c.set.ensures
    ∙ put_open c.args.tables.now c.args.change.now c.open.new.change c.args.namespace.now (without_worker c.args.number) c.in-Some.tenant
    c.remove_among-removed.new.changed
    (subst (λ x. Opened c.args.tables.now c.args.change.now c.args.namespace.now x c.open.new.change) c.in-Some.is c.in_ok-tenant.ensures)
    law)
    c.remove_among-removed.ensures

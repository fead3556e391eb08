use Rattle.std.proofs.Common.{◌≡◌, ap, ◌∙◌, subst, Some}
use Rattle.ns_types.specs.Settling.Making.{with_job}
use Rattle.ns_types.proofs.Results.{on_ok}
use Rattle.ns_change.specs.Changed.{view}
use Rattle.ns_change.specs.Opened.{Opened}
use Rattle.ns_change.proofs.Opening.{put_open}
use Rattle.ns_change.proofs.jobs.put_job.Goals as goal

pub returns-in-Ok-Some : goal.returns-in-Ok-Some
returns-in-Ok-Some c =
    let is : c.in-Ok-Some.field-0 ≡ Some c.in-Ok-Some.tenant = cc in
    on_ok c.put_among-put.result
    (λ law. ap (λ m. view c.args.tables.now (record c.open.new.change { tenants = m })) c.set.ensures
    ∙ put_open c.args.tables.now c.args.change.now c.open.new.change c.args.namespace.now (with_job c.args.id.now c.args.row) c.in-Ok-Some.tenant
    c.put_among-put.new.changed
    (subst (λ x. Opened c.args.tables.now c.args.change.now c.args.namespace.now x c.open.new.change) is c.in-Ok-Some.ensures)
    law)
    c.put_among-put.ensures

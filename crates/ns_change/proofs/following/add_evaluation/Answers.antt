use Rattle.std.proofs.Common.{ap, ◌∙◌, subst, ◌+◌}
use Rattle.ns_types.specs.Settling.Making.{with_evaluation}
use Rattle.ns_types.specs.State.Rows.{Tenant}
use Rattle.ns_change.specs.Opened.{Opened}
use Rattle.ns_change.specs.Changed.{view}
use Rattle.ns_change.proofs.Opening.{next_open, put_open}
use Rattle.ns_change.proofs.following.add_evaluation.Goals as goal

pub returns-clause-made : goal.returns-clause-made
returns-clause-made c =
    let number = c.in-Some.tenant.evaluation_number + 1 in
    ap (λ m. view c.args.tables.now (record c.open.new.change { tenants = m })) c.set.ensures
    ∙ put_open c.args.tables.now c.args.change.now c.open.new.change c.args.namespace.now (with_evaluation c.args.row) c.in-Some.tenant
    (record c.put-put.new.changed { evaluation_number = number })
    (subst (λ x. Opened c.args.tables.now c.args.change.now c.args.namespace.now x c.open.new.change) c.in-Some.is c.in_ok-tenant.ensures)
    (λ base. ap (λ (t : Tenant). record t { evaluation_number = number }) (c.in_ok-put.ensures base))

pub returns-clause-number : goal.returns-clause-number
returns-clause-number c =
    next_open c.args.tables.now c.args.change.now c.open.new.change c.args.namespace.now c.in-Some.tenant
    (subst (λ x. Opened c.args.tables.now c.args.change.now c.args.namespace.now x c.open.new.change) c.in-Some.is c.in_ok-tenant.ensures)

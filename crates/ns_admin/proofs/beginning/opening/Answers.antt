use Rattle.std.proofs.Common.{ap, ◌∙◌}
use Rattle.std.specs.FinMap.{empty, insert}
use Rattle.ns_types.specs.State.Names.{name_cmp}
use Rattle.ns_admin.proofs.Begun.{opening_tables}
use Rattle.ns_admin.proofs.beginning.opening.Goals as goal

pub returns : goal.returns
returns c = opening_tables
    (record {
      alloc = c.args.alloc;
      tenants = c.in_ok-single.field-0;
      pools = c.in_ok-single-2.field-0;
      quotas = c.new.result;
      ready = c.new-2.result;
      plans = c.new-3.result;
      blocked = c.new-4.result;
    })
    c.in_ok-opening_tenant.field-0 c.in_ok-opening_pool.field-0
    (c.in_ok-single.ensures ∙ ap (λ key. insert (empty {R = name_cmp}) key c.in_ok-opening_tenant.field-0) c.in_ok-default.ensures)
    c.in_ok-opening_tenant.ensures
    (c.in_ok-single-2.ensures ∙ ap (λ key. insert (empty {R = name_cmp}) key c.in_ok-opening_pool.field-0) c.in_ok-default.ensures)
    c.in_ok-opening_pool.ensures
    c.new.ensures c.new-2.ensures c.new-3.ensures c.new-4.ensures

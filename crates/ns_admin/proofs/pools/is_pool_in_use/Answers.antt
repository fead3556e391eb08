use Rattle.std.proofs.Common.{sym, ap, ◌∙◌}
use Rattle.std.specs.List.{list_any}
use Rattle.keyed.specs.Table.{at_slot}
use Rattle.ns_admin.specs.Viewed.{tenant_uses_pool}
use Rattle.ns_admin.proofs.Sharers.{pool_used}
use Rattle.ns_admin.proofs.pools.is_pool_in_use.Goals as goal

pub returns : goal.returns
returns c = c.any_uses_pool.ensures ∙ ap (list_any (at_slot (tenant_uses_pool c.args.name.now))) c.as_slice.ensures
    ∙ sym (pool_used c.args.tables.now c.args.name.now)

use Rattle.std.specs.Prelude.{None}
use Rattle.std.proofs.Common.{refl, sym}
use Rattle.std.specs.Option.{option_copied}
use Rattle.ns_admin.proofs.Naming.{removed_named}
use Rattle.ns_admin.proofs.World.{tenant_removed}
use Rattle.ns_tables.specs.World.{world_of}
use Rattle.ns_admin.proofs.writing.remove_namespace.Goals as goal

pub returns-clause-written : goal.returns-clause-written
returns-clause-written c = tenant_removed c.args.tables.now c.args.name.now _ c.remove.ensures

pub returns-clause-named : goal.returns-clause-named
returns-clause-named c = removed_named c.args.name.now (world_of c.args.tables.now) _ c.args.live.now c.args.live.now c.put_quota.new.self
    (record { names = λ q n. refl; totals = λ q. refl }) (option_copied c.quota_named.result) None c.use_total-used.result c.put_quota.ensures.names
    (sym c.quota_named.ensures) c.use_total-used.ensures refl
    (tenant_removed c.args.tables.now c.args.name.now _ c.remove.ensures)

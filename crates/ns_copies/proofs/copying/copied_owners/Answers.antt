use Rattle.std.proofs.Common.{subst, sym}
use Rattle.ns_copies.specs.Copied.{EachRow}
use Rattle.ns_copies.specs.Whole.{IsWholeTenant}
use Rattle.ns_copies.proofs.Parted.{whole_tenants}
use Rattle.ns_tables.specs.World.{tenant_of}
use Rattle.ns_copies.proofs.copying.copied_owners.Goals as goal

pub copied_names-requires-3 : goal.copied_names-requires-3
copied_names-requires-3 c = subst (EachRow (λ tenant. IsWholeTenant (tenant_of tenant))) (sym c.as_table-2.ensures)
    (whole_tenants c.args.tables.now c.requires)

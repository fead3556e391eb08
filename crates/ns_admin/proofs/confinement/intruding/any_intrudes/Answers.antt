use Rattle.std.proofs.Common.{sym, ap, ◌∙◌}
use Rattle.std.specs.List.{list_any}
use Rattle.std.specs.Prelude.{not, ◌&&◌}
use Rattle.keyed.proofs.Viewing.{any_row-table_of}
use Rattle.keyed.specs.Table.{at_slot}
use Rattle.ns_types.specs.Access.Sharing.{intrudes}
use Rattle.ns_types.specs.State.Names.{same_name}
use Rattle.ns_types.specs.State.Rows.{Tenant}
use Rattle.ns_tables.specs.World.{tenant_of, world_of}
use Rattle.ns_admin.specs.Straying.{other_intrudes}
use Rattle.ns_admin.proofs.confinement.intruding.any_intrudes.Goals as goal

pub returns : goal.returns
unfolding world_of
returns c =
    let ns = c.args.namespace.now in
    let pools = c.args.pools.now in
    let quotas = c.args.quotas.now in
    c.some_intrudes.ensures ∙ ap (list_any (at_slot (other_intrudes ns pools quotas))) c.as_slice.ensures
    ∙ sym (any_row-table_of (λ _ x. tenant_of x) (λ name (other : Tenant). not (same_name name ns) && intrudes pools quotas other.namespace)
    c.args.tables.now.tenants)

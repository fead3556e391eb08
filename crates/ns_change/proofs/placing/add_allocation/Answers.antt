use Rattle.std.proofs.Common.{ap, refl, sym, ◌∙◌, subst, ◌+◌, ◌<◌, ◌^◌}
use Rattle.std.specs.Prelude.{IsTrue}
use Rattle.std.specs.Option.{option_copied, option_copied_mut, option_map_or}
use Rattle.keyed.specs.Table.{has_slot, row_at}
use Rattle.keyed.proofs.Tables.{has_slot-row, has_slot-with_slot_here}
use Rattle.ns_types.specs.Settling.Making.{put_tenant}
use Rattle.ns_types.specs.Working.Commit.{with_allocation}
use Rattle.ns_types.proofs.Named.{names, one_name}
use Rattle.ns_types.proofs.Results.{on_ok}
use Rattle.ns_change.specs.declared.change.TenantChange.{TenantChange}
use Rattle.ns_tables.specs.World.{tenant_of}
use Rattle.ns_change.specs.Changed.{changed_tenant, perhaps, view}
use Rattle.ns_change.proofs.Opening.{opened, put_open, row_with_slot, unchanged_is}
use Rattle.ns_change.proofs.Seen.{changed_seen, kept_seen, none_seen}
use Rattle.ns_change.proofs.placing.add_allocation.Goals as goal

pub returns-in_default : goal.returns-in_default
returns-in_default c =
    let w = view c.args.tables.now c.args.change.now in
    sym (ap (λ o. option_map_or (λ t. put_tenant c.args.namespace.now (with_allocation c.args.row t) w) o w)
    (none_seen c.args.tables.now c.args.change.now c.args.namespace.now (sym c.get.ensures ∙ ap option_copied c.in_default.is)))

pub add_row-requires : goal.add_row-requires
add_row-requires c = c.requires _ (changed_seen c.args.tables.now c.args.change.now c.args.namespace.now c.in-Some.stored.now c.in-Some-get_mut.tenant.now
    (sym c.get.ensures ∙ ap option_copied c.in-Some.is) (sym c.get_mut.ensures.value ∙ ap option_copied_mut c.in-Some-get_mut.is))

pub returns-in-Some-get_mut : goal.returns-in-Some-get_mut
returns-in-Some-get_mut c =
    let held = sym c.get_mut.ensures.value ∙ ap option_copied_mut c.in-Some-get_mut.is in
    on_ok c.add_row.result (put_open c.args.tables.now c.args.change.now c.args.change.now c.args.namespace.now (with_allocation c.args.row)
    c.in-Some-get_mut.tenant.now c.add_row.new.tenant
    (opened c.args.tables.now c.args.change.now c.args.change.now c.args.namespace.now c.in-Some.stored.now c.in-Some-get_mut.tenant.now
    (sym c.get.ensures ∙ ap option_copied c.in-Some.is) (ap (λ r. perhaps changed_tenant r (tenant_of c.in-Some.stored.now)) held) (λ q e. refl) refl
    (has_slot-row c.args.change.now.tenants c.args.namespace.now _ held)))
    c.add_row.ensures

pub add_row-added-requires : goal.add_row-added-requires
add_row-added-requires c =
    subst (λ n. n + 1 < 2 ^ 64) (sym (ap (λ (x : TenantChange). x.allocation_number) c.unchanged-tenant.ensures))
    (c.requires _ (kept_seen c.args.tables.now c.args.change.now c.args.namespace.now c.in-Some.stored.now
    (sym c.get.ensures ∙ ap option_copied c.in-Some.is) (sym c.get_mut.ensures.value ∙ ap option_copied_mut c.in_default-get_mut.is)))

pub set-requires : goal.set-requires
set-requires c = subst (λ m. IsTrue (has_slot m c.args.namespace.now)) (sym c.in_ok-reserve.ensures.ok)
    (has_slot-with_slot_here names c.args.change.now.tenants c.args.namespace.now)

pub returns : goal.returns
returns c =
    let none = sym c.get_mut.ensures.value ∙ ap option_copied_mut c.in_default-get_mut.is in
    let slots = c.in_ok-reserve.ensures.ok in
    on_ok c.add_row-added.result (λ law. ap (λ m. view c.args.tables.now (record c.args.change.now { tenants = m })) c.set.ensures
    ∙ put_open c.args.tables.now c.args.change.now (record c.args.change.now { tenants = c.reserve.new.self }) c.args.namespace.now
    (with_allocation c.args.row) c.unchanged-tenant.result c.add_row-added.new.tenant
    (opened c.args.tables.now c.args.change.now _ c.args.namespace.now c.in-Some.stored.now c.unchanged-tenant.result
    (sym c.get.ensures ∙ ap option_copied c.in-Some.is)
    (ap (λ r. perhaps changed_tenant r (tenant_of c.in-Some.stored.now)) none ∙
    sym (ap (changed_tenant (tenant_of c.in-Some.stored.now)) c.unchanged-tenant.ensures ∙ unchanged_is (tenant_of c.in-Some.stored.now)))
    (λ q e. ap (λ m. row_at m q) slots ∙ row_with_slot names one_name c.args.change.now.tenants c.args.namespace.now q)
    refl
    (subst (λ m. IsTrue (has_slot m c.args.namespace.now)) (sym slots) (has_slot-with_slot_here names c.args.change.now.tenants c.args.namespace.now)))
    law)
    c.add_row-added.ensures

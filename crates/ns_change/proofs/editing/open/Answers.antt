use Rattle.std.proofs.Common.{refl, ap, sym, ◌∙◌, subst}
use Rattle.std.specs.Option.{option_copied}
use Rattle.std.specs.Prelude.{cond, None, IsTrue}
use Rattle.keyed.specs.Table.{has_slot, row_at}
use Rattle.keyed.proofs.Tables.{has_slot-row, has_slot-with_slot_here}
use Rattle.ns_types.proofs.Named.{names, one_name}
use Rattle.ns_change.specs.Changed.{changed_tenant, perhaps}
use Rattle.ns_tables.specs.World.{tenant_of}
use Rattle.ns_change.proofs.Opening.{emptied_keeps, opened, row_emptied, row_with_slot, unchanged_is}
use Rattle.ns_change.proofs.Seen.{none_seen}
use Rattle.ns_change.proofs.editing.open.Goals as goal

pub returns-in_default : goal.returns-in_default
returns-in_default c = (none_seen c.args.tables.now c.args.change.now c.args.namespace.now (sym c.get.ensures ∙ ap option_copied c.in_default.is), refl)

pub returns-in-Some-take : goal.returns-in-Some-take
returns-in-Some-take c =
    let held = sym c.take.ensures.row ∙ c.in-Some-take.is in
    opened c.args.tables.now c.args.change.now _ c.args.namespace.now c.in-Some.tenant.now c.in-Some-take.changed
    (sym c.get.ensures ∙ ap option_copied c.in-Some.is)
    (ap (λ r. perhaps changed_tenant r (tenant_of c.in-Some.tenant.now)) held)
    (λ q e. ap (λ m. row_at m q) c.take.ensures.slots ∙ row_emptied names one_name c.args.change.now.tenants c.args.namespace.now q ∙
    ap (λ b. cond b None (row_at c.args.change.now.tenants q)) e)
    refl
    (subst (λ m. IsTrue (has_slot m c.args.namespace.now)) (sym c.take.ensures.slots)
    (emptied_keeps names one_name c.args.change.now.tenants c.args.namespace.now c.args.namespace.now
    (has_slot-row c.args.change.now.tenants c.args.namespace.now _ held)))

pub returns : goal.returns
returns c =
    let none = sym c.take.ensures.row ∙ c.in_default-take.is in
    let slots = c.in_ok-reserve.ensures.ok in
    opened c.args.tables.now c.args.change.now _ c.args.namespace.now c.in-Some.tenant.now c.unchanged.result
    (sym c.get.ensures ∙ ap option_copied c.in-Some.is)
    (ap (λ r. perhaps changed_tenant r (tenant_of c.in-Some.tenant.now)) none ∙
    sym (ap (changed_tenant (tenant_of c.in-Some.tenant.now)) c.unchanged.ensures ∙ unchanged_is (tenant_of c.in-Some.tenant.now)))
    (λ q e. ap (λ m. row_at m q) slots ∙ row_with_slot names one_name c.take.new.self c.args.namespace.now q ∙ ap (λ m. row_at m q) c.take.ensures.slots ∙
    row_emptied names one_name c.args.change.now.tenants c.args.namespace.now q ∙ ap (λ b. cond b None (row_at c.args.change.now.tenants q)) e)
    refl
    (subst (λ m. IsTrue (has_slot m c.args.namespace.now)) (sym slots) (has_slot-with_slot_here names c.take.new.self c.args.namespace.now))

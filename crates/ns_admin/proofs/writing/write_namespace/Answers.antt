use Rattle.std.proofs.Common.{refl, subst, sym, ap, ◌∙◌}
use Rattle.std.specs.Option.{option_copied}
use Rattle.std.specs.Prelude.{IsTrue, None, is_some}
use Rattle.ns_admin.proofs.Naming.{named_nowhere, same_named, used_nowhere, written_named}
use Rattle.ns_admin.proofs.World.{tenant_new}
use Rattle.ns_live_index.specs.Naming.{AreNamed, HasNameRoom}
use Rattle.ns_tables.specs.World.{world_of}
use Rattle.keyed.proofs.Tables.{slot_made}
use Rattle.ns_types.specs.State.Rows.{Tenant}
use Rattle.ns_types.proofs.Named.{names}
use Rattle.ns_admin.proofs.writing.write_namespace.Goals as goal

pub replace_namespace-requires-clause-there : goal.replace_namespace-requires-clause-there
replace_namespace-requires-clause-there c = subst (λ r. IsTrue (is_some r)) (sym (ap option_copied c.in-Some.is) ∙ c.get.ensures) refl

pub replace_namespace-requires-clause-room : goal.replace_namespace-requires-clause-room
replace_namespace-requires-clause-room c =
    subst (HasNameRoom c.reserve_quota.new.self.quotas c.args.name.now) c.as_ref.ensures.value c.in_ok-reserve_quota.ensures.ok

pub set-requires : goal.set-requires
set-requires c = slot_made names _ _ _ c.in_ok-reserve.ensures.ok

pub returns-clause-written : goal.returns-clause-written
returns-clause-written c = tenant_new c.args.tables.now c.args.name.now c.reserve.new.self c.set.new.self c.args.namespace c.in_ok-tenant.tenant
    (sym c.get.ensures ∙ ap option_copied c.in_default.is) c.in_ok-tenant.ensures c.in_ok-reserve.ensures.ok c.set.ensures

pub returns-in-Some-clause-named : goal.returns-in-Some-clause-named
returns-in-Some-clause-named c right = c.replace_namespace.ensures.named
    (same_named (world_of c.args.tables.now) c.args.live.now c.reserve_quota.new.self c.in_ok-reserve_quota.ensures.same right)

pub returns-in_err-reserve-clause-named : goal.returns-in_err-reserve-clause-named
returns-in_err-reserve-clause-named c right =
    same_named (world_of (record c.args.tables.now { tenants = c.reserve.new.self })) c.args.live.now c.reserve_quota.new.self
    c.in_ok-reserve_quota.ensures.same
    (subst (λ m. AreNamed (world_of (record c.args.tables.now { tenants = m })) c.args.live.now) (sym c.in_err-reserve.ensures.err) right)

pub returns-clause-named : goal.returns-clause-named
returns-clause-named c =
    let none = sym c.get.ensures ∙ ap option_copied c.in_default.is in
    written_named c.args.name.now (world_of c.args.tables.now) _ c.args.live.now c.reserve_quota.new.self c.put_quota.new.self
    c.in_ok-reserve_quota.ensures.same None (option_copied c.as_ref-2.result) c.none.result c.put_quota.ensures.names
    (named_nowhere c.args.tables.now c.args.name.now none) (used_nowhere c.args.tables.now c.args.name.now none c.none.result c.none.ensures)
    c.args.namespace (c.as_ref-2.ensures.value ∙ ap (λ (t : Tenant). t.namespace.quota) c.in_ok-tenant.ensures)
    (tenant_new c.args.tables.now c.args.name.now c.reserve.new.self c.set.new.self c.args.namespace c.in_ok-tenant.tenant none
    c.in_ok-tenant.ensures c.in_ok-reserve.ensures.ok c.set.ensures)

pub returns-in_err-reserve_quota-clause-named : goal.returns-in_err-reserve_quota-clause-named
returns-in_err-reserve_quota-clause-named c = same_named (world_of c.args.tables.now) c.args.live.now c.reserve_quota.new.self c.reserve_quota.ensures.same

pub returns-in_err-tenant-clause-named : goal.returns-in_err-tenant-clause-named
returns-in_err-tenant-clause-named c = same_named (world_of c.args.tables.now) c.args.live.now c.reserve_quota.new.self c.in_ok-reserve_quota.ensures.same

use Rattle.std.proofs.Common.{Some, ap, refl, subst, sym, ◌∙◌}
use Rattle.std.specs.FinMap.{insert}
use Rattle.std.specs.Option.{option_copied}
use Rattle.std.specs.Prelude.{IsTrue, T, is_some}
use Rattle.keyed.specs.Table.{has_slot}
use Rattle.keyed.proofs.Tables.{has_slot-row, insert-emptied}
use Rattle.ns_types.proofs.Named.{names, one_name}
use Rattle.ns_change.proofs.Opening.{emptied_keeps}
use Rattle.ns_live_index.specs.Naming.{HasNameRoom}
use Rattle.ns_tables.specs.World.{world_of}
use Rattle.ns_admin.proofs.Naming.{named_there, used_there, written_named}
use Rattle.ns_admin.proofs.World.{tenant_over}
use Rattle.ns_admin.proofs.writing.replace_namespace.Goals as goal

pub put_quota-requires : goal.put_quota-requires
put_quota-requires c = subst (HasNameRoom c.args.live.now.quotas c.args.name.now) (sym c.as_ref-in-Some.ensures.value) c.requires.room

pub set-requires : goal.set-requires
set-requires c = subst (λ m. IsTrue (has_slot m c.args.name.now)) (sym c.take.ensures.slots)
    (emptied_keeps names one_name c.args.tables.now.tenants c.args.name.now c.args.name.now
    (has_slot-row c.args.tables.now.tenants c.args.name.now c.in-Some.tenant (sym c.take.ensures.row ∙ c.in-Some.is)))

pub returns-in-Some-clause-written : goal.returns-in-Some-clause-written
returns-in-Some-clause-written c =
    let new = Some (record c.in-Some.tenant { namespace = c.args.namespace }) in
    tenant_over c.args.tables.now c.args.name.now _ c.args.namespace c.in-Some.tenant (sym c.take.ensures.row ∙ c.in-Some.is)
    (c.set.ensures ∙ ap (λ m. insert m c.args.name.now new) c.take.ensures.slots
    ∙ insert-emptied names one_name c.args.tables.now.tenants c.args.name.now new)

pub returns-in-Some-clause-named : goal.returns-in-Some-clause-named
returns-in-Some-clause-named c =
    let there = sym c.take.ensures.row ∙ c.in-Some.is in
    let new = Some (record c.in-Some.tenant { namespace = c.args.namespace }) in
    written_named c.args.name.now (world_of c.args.tables.now) _ c.args.live.now c.args.live.now c.put_quota.new.self
    (record { names = λ q n. refl; totals = λ q. refl }) (option_copied c.as_ref.result) (option_copied c.as_ref-in-Some.result) c.live_total.result
    c.put_quota.ensures.names (named_there c.args.tables.now c.args.name.now c.in-Some.tenant there ∙ sym c.as_ref.ensures.value)
    (used_there c.args.tables.now c.args.name.now c.in-Some.tenant there c.live_total.result c.live_total.ensures)
    c.args.namespace c.as_ref-in-Some.ensures.value
    (tenant_over c.args.tables.now c.args.name.now _ c.args.namespace c.in-Some.tenant there
    (c.set.ensures ∙ ap (λ m. insert m c.args.name.now new) c.take.ensures.slots
    ∙ insert-emptied names one_name c.args.tables.now.tenants c.args.name.now new))

pub returns-in-None-clause-written : goal.returns-in-None-clause-written
returns-in-None-clause-written c =
    absurd (subst T (sym (subst (λ r. IsTrue (is_some r)) (sym c.take.ensures.row ∙ c.in-None.is) c.requires.there)) tt)

pub returns-in-None-clause-named : goal.returns-in-None-clause-named
returns-in-None-clause-named c =
    absurd (subst T (sym (subst (λ r. IsTrue (is_some r)) (sym c.take.ensures.row ∙ c.in-None.is) c.requires.there)) tt)

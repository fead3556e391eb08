use Rattle.std.proofs.Common.{sym, ap, ◌∙◌}
use Rattle.keyed.specs.Table.{rows}
use Rattle.ns_admin.proofs.World.{pools_full, quotas_full, tenants_full}
use Rattle.ns_types.specs.Asking.Admins.{is_full}
use Rattle.ns_types.specs.Isolation.{lacks_room}
use Rattle.ns_types.specs.declared.step.Step.{Step}
use Rattle.ns_tables.specs.World.{world_of}
use Rattle.ns_admin.proofs.confinement.lacks_room.Goals as goal

pub returns-in-PutNamespace : goal.returns-in-PutNamespace
returns-in-PutNamespace c =
    let name = c.in-PutNamespace.name in
    c.is_full.ensures ∙ ap (λ m. is_full (rows m) name) c.as_table.ensures ∙ sym (tenants_full c.args.tables.now name)
    ∙ sym (ap (λ s. lacks_room s (world_of c.args.tables.now))
    (c.in-Admin.is ∙ ap (Step.Admin c.in-Admin.field-0) (sym c.get.ensures.same ∙ c.in-PutNamespace.is)))

pub returns-in-PutQuota : goal.returns-in-PutQuota
returns-in-PutQuota c =
    let name = c.in-PutQuota.name in
    c.is_full-in-PutQuota.ensures ∙ sym (quotas_full c.args.tables.now name)
    ∙ sym (ap (λ s. lacks_room s (world_of c.args.tables.now))
    (c.in-Admin.is ∙ ap (Step.Admin c.in-Admin.field-0) (sym c.get.ensures.same ∙ c.in-PutQuota.is)))

pub returns-in-PutPool : goal.returns-in-PutPool
returns-in-PutPool c =
    let name = c.in-PutPool.name in
    c.is_full-in-PutPool.ensures ∙ ap (λ m. is_full (rows m) name) c.as_table-in-PutPool.ensures ∙ sym (pools_full c.args.tables.now name)
    ∙ sym (ap (λ s. lacks_room s (world_of c.args.tables.now))
    (c.in-Admin.is ∙ ap (Step.Admin c.in-Admin.field-0) (sym c.get.ensures.same ∙ c.in-PutPool.is)))

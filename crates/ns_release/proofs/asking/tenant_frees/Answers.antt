use Rattle.std.proofs.Common.{[], ap, sym, ◌∙◌}
use Rattle.std.specs.List.{list_any}
use Rattle.std.specs.Option.{option_map_or}
use Rattle.std.specs.Prelude.{flat_map}
use Rattle.ns_types.specs.declared.allocation.Allocation.{Allocation}
use Rattle.ns_types.specs.declared.records.Namespace.{Namespace}
use Rattle.ns_types.proofs.Elements.{any_flat}
use Rattle.ns_release.specs.Released.{ended_among, ended_one, quota_left, quotas_ended}
use Rattle.ns_tables.specs.World.{tenant_of}
use Rattle.ns_release.proofs.Released.{flat_flat}
use Rattle.ns_release.proofs.asking.tenant_frees.Goals as goal

pub returns-in-Some : goal.returns-in-Some
returns-in-Some g c =
    let p = g.Q.Question.of_quota c.args.question.now in
    let t = tenant_of c.in-Some.tenant.now in
    let slots = c.in-Some.slots.now in
    c.any_frees.ensures ∙ sym (any_flat p (quotas_ended t) slots)
    ∙ ap (list_any p) (flat_flat (λ (e : Namespace × Allocation). quota_left e.0) (λ s. ended_one t s.0 s.1) slots
    ∙ ap (flat_map (λ (e : Namespace × Allocation). quota_left e.0))
    (sym (c.changed_allocations.ensures ∙ ap (λ r. option_map_or (λ x. ended_among (tenant_of x.0.now) x.1.now) r []) c.in-Some.is)))

pub returns-in-None : goal.returns-in-None
returns-in-None g c = sym (ap (λ l. list_any (g.Q.Question.of_quota c.args.question.now) (flat_map (λ (e : Namespace × Allocation). quota_left e.0) l))
    (c.changed_allocations.ensures ∙ ap (λ r. option_map_or (λ x. ended_among (tenant_of x.0.now) x.1.now) r []) c.in-None.is))

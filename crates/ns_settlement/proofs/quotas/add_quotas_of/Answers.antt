use Rattle.std.proofs.Common.{[], ap, sym, ◌∙◌, ◌++◌}
use Rattle.std.proofs.lemmas.List.{append-nil}
use Rattle.std.specs.Option.{option_map_or}
use Rattle.std.specs.Prelude.{flat_map}
use Rattle.ns_types.specs.declared.allocation.Allocation.{Allocation}
use Rattle.ns_types.specs.declared.records.Namespace.{Namespace}
use Rattle.ns_release.specs.Released.{ended_among, ended_one, quota_left}
use Rattle.ns_tables.specs.World.{tenant_of}
use Rattle.ns_release.proofs.Released.{flat_flat}
use Rattle.ns_settlement.proofs.quotas.add_quotas_of.Goals as goal

pub returns-in_ok-add_quotas : goal.returns-in_ok-add_quotas
returns-in_ok-add_quotas c = c.in_ok-add_quotas.ensures
    ∙ ap (λ l. c.args.quotas.now ++ l) (flat_flat (λ (e : Namespace × Allocation). quota_left e.0)
    (λ s. ended_one (tenant_of c.in-Some.tenant.now) s.0 s.1) c.in-Some.slots.now
    ∙ ap (flat_map (λ (e : Namespace × Allocation). quota_left e.0)) (sym (c.changed_allocations.ensures
    ∙ ap (λ r. option_map_or (λ x. ended_among (tenant_of x.0.now) x.1.now) r []) c.in-Some.is)))

pub returns-in_default : goal.returns-in_default
returns-in_default c = sym (ap (λ l. c.args.quotas.now ++ flat_map (λ (e : Namespace × Allocation). quota_left e.0) l)
    (c.changed_allocations.ensures ∙ ap (λ r. option_map_or (λ x. ended_among (tenant_of x.0.now) x.1.now) r []) c.in_default.is) ∙
    append-nil c.args.quotas.now)

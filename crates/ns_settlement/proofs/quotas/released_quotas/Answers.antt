use Rattle.std.proofs.Common.{ap, ◌∙◌, ◌++◌}
use Rattle.std.specs.Prelude.{flat_map}
use Rattle.std.specs.FinMap.{entries}
use Rattle.ns_types.specs.declared.allocation.Allocation.{Allocation}
use Rattle.ns_types.specs.declared.records.Namespace.{Namespace}
use Rattle.ns_release.specs.Released.{ended_of, quota_left, quota_relimited, quotas_ended_in}
use Rattle.ns_tables.specs.World.{world_of}
use Rattle.ns_release.proofs.Released.{flat_flat}
use Rattle.ns_settlement.proofs.quotas.released_quotas.Goals as goal

pub returns : goal.returns
returns c =
    let w = world_of c.args.tables.now in
    c.in_ok-add_all_left.ensures ∙ (λ i. (c.in_ok-add_all_relimited.ensures
    ∙ (λ j. c.new-quotas.ensures j ++ flat_map (quota_relimited w) (c.as_slice.ensures j))) i
    ++ (ap (flat_map (quotas_ended_in w)) c.as_slice-2.ensures
    ∙ flat_flat (λ (e : Namespace × Allocation). quota_left e.0) (λ s. ended_of w s.0 s.1) (entries c.args.change.now.tenants)) i)

use Rattle.std.proofs.Common.{ap, ◌∙◌}
use Rattle.std.specs.FinMap.{entries}
use Rattle.std.specs.Prelude.{not, ◌&&◌}
use Rattle.ns_admin.proofs.Holdings.{by_slots}
use Rattle.ns_types.specs.State.Names.{has_name}
use Rattle.ns_types.specs.State.Rows.{is_open}
use Rattle.ns_admin.proofs.confinement.straying.has_evaluation_astray.Goals as goal

pub returns : goal.returns
returns c = by_slots (λ _ e. is_open e.status && not (has_name c.args.pools.now e.pool)) c.args.tenant.now.evaluations.slots _ _
    (c.as_slice.ensures ∙ ap entries c.rows.ensures) c.any_evaluation_strays.ensures

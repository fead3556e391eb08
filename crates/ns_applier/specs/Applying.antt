-- The outcome of an Apply of the plan that is next. Here t is the snapshot's namespace.
use Rattle.std.specs.Prelude.{ℕ, not, ◌&&◌, if◌then◌else◌}
use Rattle.ns_types.specs.declared.evaluation.Evaluation.{Evaluation}
use Rattle.ns_types.specs.declared.plan.Plan.{Plan}
use Rattle.ns_types.specs.declared.refusal.Refusal.{Refusal}
use Rattle.ns_types.specs.declared.snapshot.Snapshot.{Snapshot}
use Rattle.ns_types.specs.Settling.Outcome.{Outcome, Refused}
use Rattle.ns_types.specs.State.Rows.{Tenant, World}
use Rattle.ns_types.specs.Working.Commit.{Applied, applied, commit}
use Rattle.ns_types.specs.Working.Worker.{Worker}
use Rattle.ns_applier.specs.HeadroomApplying.{apply_passes}
use Rattle.ns_applier.specs.Judging.{doing}

-- what the Apply does of the plan; or it is refused, because a counter would pass its bound
abbrev pub comes_as : ℕ → World → Worker → Evaluation → Snapshot → Plan → Applied → Outcome World
comes_as number w worker e kept p a =
    if not a.checked.is_refused && apply_passes w kept (doing w kept p a.checked.committed) then Refused Refusal.Full
    else applied number kept.namespace worker e a

abbrev pub comes_to : ℕ → World → Tenant → Worker → Evaluation → Snapshot → Plan → Outcome World
comes_to number w t worker e kept p = comes_as number w worker e kept p (commit kept p w t)

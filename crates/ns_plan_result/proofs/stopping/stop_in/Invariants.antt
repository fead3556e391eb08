use Rattle.std.proofs.Common.{◌≡◌, drop, fold}
use Rattle.ns_types.specs.declared.allocation.DesiredStatus.TheVariants as DesiredStatus
use Rattle.ns_types.specs.Settling.Making.{change_tenant, with_desired}
use Rattle.ns_types.specs.Working.Commit.{live_stops}
use Rattle.ns_change.specs.Changed.{view}
use Rattle.ns_tables.specs.World.{tenant_of}
use Rattle.ns_plan_result.proofs.stopping.stop_in.Given as goal

abbrev pub invariant-loop-number : goal.invariant-loop-number
invariant-loop-number l = fold (λ w n. change_tenant l.namespace (with_desired n DesiredStatus.Stop) w) (view l.tables l.change)
    (live_stops (tenant_of l.tenant) (drop l.number-index l.stops))
    ≡ fold (λ w n. change_tenant l.namespace (with_desired n DesiredStatus.Stop) w) (view l.tables l.initial.change)
    (live_stops (tenant_of l.tenant) l.stops)

use Rattle.std.proofs.Common.{ap, sym, fold, arith, ◌∙◌}
use Rattle.std.proofs.lemmas.List.{drop_all}
use Rattle.ns_types.specs.declared.allocation.DesiredStatus.TheVariants as DesiredStatus
use Rattle.ns_types.specs.Settling.Making.{change_tenant, with_desired}
use Rattle.ns_types.specs.Working.Commit.{live_stops}
use Rattle.ns_types.proofs.Gone.{change_each}
use Rattle.ns_change.specs.Changed.{view}
use Rattle.ns_tables.specs.World.{tenant_of}
use Rattle.ns_plan_result.proofs.stopping.stop_in.Goals as goal

pub returns : goal.returns
returns c =
    let t = tenant_of c.args.tenant.now in
    let stops = c.args.stops.now in
    let ns = c.args.namespace.now in
    ap (λ ns'. fold (λ w n. change_tenant ns (with_desired n DesiredStatus.Stop) w)
    (view c.args.tables.now c.loop-number.change) (live_stops t ns')) (sym (drop_all c.loop-number.number-index stops (omega arith)))
    ∙ c.loop-number.invariant
    ∙ sym (change_each ns (λ t n. with_desired n DesiredStatus.Stop t) (live_stops t stops) (view c.args.tables.now c.args.change.now))

use Rattle.std.proofs.Common.{ap, map, ◌∙◌}
use Rattle.std.specs.Prelude.{option_map}
use Rattle.ns_types.specs.State.Rows.{World}
use Rattle.ns_types.specs.Working.Commit.{evict_all, live_stops, stop_all, victims_of}
use Rattle.ns_tables.proofs.World.{tenant_at}
use Rattle.ns_tables.specs.World.{tenant_of}
use Rattle.ns_types.specs.Working.Parts.{placed_on}
use Rattle.ns_plan_result.proofs.writing.clear.Goals as goal

pub returns : goal.returns
returns c =
    let committed = c.args.committed.now in
    let kept = committed.snapshot.now in
    let t = tenant_of c.args.tenant.now in
    let placed = placed_on committed.nodes.now committed.plan.now.placing.placements in
    let stopped = c.in_ok-stop.ensures t (tenant_at committed.tables.now kept.namespace ∙ ap (option_map tenant_of) c.requires.tenant)
    ∙ ap (stop_all kept.namespace (live_stops t committed.plan.now.stops)) c.requires.nothing in
    record {
      victims_are = c.in_ok-victims.ensures ∙ ap (λ (x : World). victims_of x kept placed) stopped;
      world_is = c.in_ok-evict.ensures ∙ (λ i. evict_all (stopped i) (map (λ e. e.now) (c.deref.ensures.value i)));
    }

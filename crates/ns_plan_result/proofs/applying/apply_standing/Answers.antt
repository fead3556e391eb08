use Rattle.std.proofs.Common.{refl}
use Rattle.ns_types.specs.Working.Commit.{applied, done}
use Rattle.ns_tables.specs.World.{tenant_of, world_of}
use Rattle.ns_plan_result.proofs.applying.apply_standing.Goals as goal

pub returns : goal.returns
returns c =
    let committed = c.args.committed.now in
    let kept = committed.snapshot.now in
    let turn = c.args.turn.now in
    c.prepared.ensures committed.tables.now (applied turn.number kept.namespace turn.worker.now turn.evaluation.now
    (done kept committed.plan.now (world_of committed.tables.now) (tenant_of c.args.tenant.now))) refl c.write_told-told.ensures

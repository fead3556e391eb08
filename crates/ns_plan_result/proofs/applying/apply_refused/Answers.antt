use Rattle.std.proofs.Common.{refl}
use Rattle.ns_types.specs.Working.Commit.{applied, refused_whole}
use Rattle.ns_tables.specs.World.{world_of}
use Rattle.ns_plan_result.proofs.applying.apply_refused.Goals as goal

pub returns : goal.returns
returns c = λ p is.
    let kept = c.args.snapshot.now in
    let turn = c.args.turn.now in
    c.prepared.ensures c.args.tables.now (applied turn.number kept.namespace turn.worker.now turn.evaluation.now
    (refused_whole kept p (world_of c.args.tables.now))) refl (c.mark_told-told.ensures p is)

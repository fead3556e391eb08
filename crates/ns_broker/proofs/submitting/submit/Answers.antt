use Rattle.std.proofs.Common.{ap, sym}
use Rattle.ns_types.specs.declared.reply.Content.TheVariants as Content
use Rattle.ns_types.specs.Settling.Outcome.{Done}
use Rattle.ns_broker.proofs.Submitted.{refused, submits}
use Rattle.ns_broker.specs.Submitting.{handed_in}
use Rattle.ns_change.proofs.Prepares.{done_as, prepares_as}
use Rattle.ns_tables.specs.World.{world_of}
use Rattle.ns_broker.proofs.submitting.submit.Goals as goal

pub hand_in-made-requires : goal.hand_in-made-requires
hand_in-made-requires c = c.in-Ok.ensures.kept

pub returns-in-Err : goal.returns-in-Err
returns-in-Err c = refused c.args.number c.args.namespace.now c.args.tables.now c.args.planned c.in-Err.refusal c.in-Err.ensures

pub returns : goal.returns
returns c =
    let w = world_of c.args.tables.now in
    let worker = c.in-Ok.worker.now in
    submits c.args.number c.args.namespace.now c.args.tables.now c.args.planned worker c.in-Ok.ensures c.requires c.prepare.result
    (prepares_as _ _ c.args.tables.now c.prepare.result
    (ap (λ n. Done (Content.Queued n) (handed_in c.args.number c.args.namespace.now worker w)) (sym c.evaluation.ensures))
    (c.prepare.ensures c.args.tables.now (handed_in c.args.number c.args.namespace.now worker w)
    (done_as _ c.args.tables.now c.hand_in-made.new.change _ _
    (ap (handed_in c.args.number c.args.namespace.now worker) (c.new-change.ensures c.args.tables.now))
    c.hand_in-made.ensures)))

use Rattle.std.proofs.Common.{subst, sym}
use Rattle.ns_types.specs.declared.evaluation.Trigger.TheVariants as Trigger
use Rattle.ns_types.specs.declared.reply.Content.TheVariants as Content
use Rattle.ns_types.specs.Settling.Making.{evaluation_of, make_in}
use Rattle.ns_types.specs.Settling.Outcome.{Done}
use Rattle.ns_change.specs.Changed.{HasEvaluationLeft, without_job}
use Rattle.ns_tables.specs.World.{tenant_of, world_of}
use Rattle.ns_change.proofs.Prepares.{done_as, prepares_as}
use Rattle.ns_jobs.proofs.Prepared.{left_here, made_over, there}
use Rattle.ns_jobs.proofs.deregistration.removed.Goals as goal

pub remove_and_make-made-requires : goal.remove_and_make-made-requires
remove_and_make-made-requires c = subst (λ w. HasEvaluationLeft w c.args.namespace.now) (sym (c.new-change.ensures c.args.tables.now))
    (left_here (world_of c.args.tables.now) c.args.namespace.now (tenant_of c.args.tenant.now)
    (there c.args.tables.now c.args.namespace.now c.args.tenant.now c.requires.tenant) c.requires.numbers.fits)

pub returns : goal.returns
returns c =
    let w = world_of c.args.tables.now in
    let t = tenant_of c.args.tenant.now in
    let ns = c.args.namespace.now in
    let n = c.requires.numbers in
    let f = without_job c.args.id.now in
    let e = evaluation_of c.args.id.now c.get-document.result.now Trigger.JobDeregister in
    prepares_as _ _ c.args.tables.now c.prepare.result
    (λ i. Done (Content.Registered (sym n.evaluation i) (sym n.index i) (sym n.index i))
    (make_in ns (evaluation_of c.args.id.now (sym c.get-document.ensures i) Trigger.JobDeregister) w (f t)))
    (c.prepare.ensures c.args.tables.now (make_in ns e w (f t)) (done_as _ c.args.tables.now c.remove_and_make-made.new.change _ _
    (made_over w ns t (there c.args.tables.now ns c.args.tenant.now c.requires.tenant) f e _ (c.new-change.ensures c.args.tables.now))
    c.remove_and_make-made.ensures))

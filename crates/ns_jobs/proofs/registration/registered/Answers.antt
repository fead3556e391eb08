use Rattle.std.proofs.Common.{refl, ap, subst, sym, ◌∙◌, Err}
use Rattle.std.proofs.lemmas.Result.{err_from_is_err_and}
use Rattle.ns_types.specs.declared.evaluation.Trigger.TheVariants as Trigger
use Rattle.ns_types.specs.declared.reply.Content.TheVariants as Content
use Rattle.ns_types.specs.Settling.Making.{evaluation_of, make_in, with_job}
use Rattle.ns_types.specs.Settling.Outcome.{Done}
use Rattle.ns_tables.specs.World.{tenant_of, world_of}
use Rattle.ns_change.specs.Changed.{HasEvaluationLeft}
use Rattle.ns_change.proofs.Prepares.{done_as, out_of_memory, prepares_as}
use Rattle.ns_jobs.proofs.Prepared.{left_here, made_over, there}
use Rattle.ns_jobs.proofs.registration.registered.Goals as goal

pub put_and_make-made-requires : goal.put_and_make-made-requires
put_and_make-made-requires c = subst (λ w. HasEvaluationLeft w c.args.namespace.now) (sym (c.new-change.ensures c.args.tables.now))
    (left_here (world_of c.args.tables.now) c.args.namespace.now (tenant_of c.args.tenant.now)
    (there c.args.tables.now c.args.namespace.now c.args.tenant.now c.requires.tenant) c.requires.numbers.fits)

pub returns-in_err-job : goal.returns-in_err-job
returns-in_err-job c =
    let p = err_from_is_err_and c.from_residual.result c.from_residual.ensures.1 in
    out_of_memory _ c.args.tables.now c.from_residual.result (p.1 ∙ ap Err p.2) refl

pub returns : goal.returns
returns c =
    let w = world_of c.args.tables.now in
    let t = tenant_of c.args.tenant.now in
    let ns = c.args.namespace.now in
    let id = c.args.registration.now.id in
    let n = c.requires.numbers in
    let f = with_job id c.in_ok-job.job in
    let e = evaluation_of id c.in_ok-job.job.document Trigger.JobRegister in
    prepares_as _ _ c.args.tables.now c.prepare.result
    (λ i. Done (Content.Registered (sym n.evaluation i) (sym n.index i) (sym c.in_ok-job.ensures i).modify_index)
    (make_in ns (evaluation_of id (sym c.in_ok-job.ensures i).document Trigger.JobRegister) w (with_job id (sym c.in_ok-job.ensures i) t)))
    (c.prepare.ensures c.args.tables.now (make_in ns e w (f t)) (done_as _ c.args.tables.now c.put_and_make-made.new.change _ _
    (made_over w ns t (there c.args.tables.now ns c.args.tenant.now c.requires.tenant) f e _ (c.new-change.ensures c.args.tables.now))
    c.put_and_make-made.ensures))

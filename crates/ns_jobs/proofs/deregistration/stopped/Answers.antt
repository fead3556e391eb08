use Rattle.std.specs.Prelude.{◌≡◌, ℕ, Bool, Err, true, false, if◌then◌else◌}
use Rattle.std.proofs.Common.{refl, ap, subst, sym, ◌∙◌}
use Rattle.std.proofs.lemmas.Result.{err_from_is_err_and}
use Rattle.ns_types.specs.declared.job.Job.{Job}
use Rattle.ns_types.specs.declared.evaluation.Trigger.TheVariants as Trigger
use Rattle.ns_types.specs.declared.reply.Content.TheVariants as Content
use Rattle.ns_types.specs.Asking.Asks.{stopped_job}
use Rattle.ns_types.specs.Settling.Making.{evaluation_of, make_in, with_job}
use Rattle.ns_types.specs.Settling.Outcome.{Done}
use Rattle.ns_tables.specs.World.{tenant_of, world_of}
use Rattle.ns_change.specs.Changed.{HasEvaluationLeft}
use Rattle.ns_change.proofs.Prepares.{done_as, out_of_memory, prepares_as}
use Rattle.ns_jobs.proofs.Prepared.{left_here, made_over, there}
use Rattle.ns_jobs.proofs.deregistration.stopped.Goals as goal

-- it keeps its document
kept : (index : ℕ) (job : Job) → job.document ≡ (stopped_job index job).document
kept index job = by job.stop
  where
    by : (b : Bool) → job.document ≡ (if b then job else record job { stop = true; modify_index = index }).document
    by true = refl
    by false = refl

pub put_and_make-made-requires : goal.put_and_make-made-requires
put_and_make-made-requires c = subst (λ w. HasEvaluationLeft w c.args.namespace.now) (sym (c.new-change.ensures c.args.tables.now))
    (left_here (world_of c.args.tables.now) c.args.namespace.now (tenant_of c.args.tenant.now)
    (there c.args.tables.now c.args.namespace.now c.args.tenant.now c.requires.tenant) c.requires.numbers.fits)

pub returns-in_err-job : goal.returns-in_err-job
returns-in_err-job c =
    let p = err_from_is_err_and c.from_residual.result c.from_residual.ensures.1 in
    out_of_memory _ c.args.tables.now c.from_residual.result (p.1 ∙ ap Err p.2) refl

pub returns : goal.returns
returns c =
    let w = world_of c.args.tables.now in
    let t = tenant_of c.args.tenant.now in
    let ns = c.args.namespace.now in
    let id = c.args.id.now in
    let n = c.requires.numbers in
    let f = with_job id c.in_ok-job.job in
    let e = evaluation_of id c.in_ok-job.job.document Trigger.JobDeregister in
    prepares_as _ _ c.args.tables.now c.prepare.result
    ((λ i. Done (Content.Registered (sym n.evaluation i) (sym n.index i) (stopped_job (sym n.index i) c.args.job.now).modify_index)
    (make_in ns (evaluation_of id (kept (sym n.index i) c.args.job.now i) Trigger.JobDeregister) w
    (with_job id (stopped_job (sym n.index i) c.args.job.now) t)))
    ∙ (λ i. Done (Content.Registered c.args.numbers.evaluation c.args.numbers.index (sym c.in_ok-job.ensures i).modify_index)
    (make_in ns (evaluation_of id (sym c.in_ok-job.ensures i).document Trigger.JobDeregister) w (with_job id (sym c.in_ok-job.ensures i) t))))
    (c.prepare.ensures c.args.tables.now (make_in ns e w (f t)) (done_as _ c.args.tables.now c.put_and_make-made.new.change _ _
    (made_over w ns t (there c.args.tables.now ns c.args.tenant.now c.requires.tenant) f e _ (c.new-change.ensures c.args.tables.now))
    c.put_and_make-made.ensures))

use Rattle.std.proofs.Common.{ap, refl, sym, subst, ◌∙◌}
use Rattle.ns_types.specs.declared.job.Document.{Document}
use Rattle.ns_types.specs.Settling.Making.{evaluation_of, make, with_job}
use Rattle.ns_change.specs.Changed.{HasEvaluationLeft, view}
use Rattle.ns_change.proofs.Prepares.{done_as}
use Rattle.ns_jobs.proofs.Prepared.{still_left}
use Rattle.ns_jobs.proofs.making.put_and_make.Goals as goal

pub make-requires : goal.make-requires
make-requires c = subst (λ w. HasEvaluationLeft w c.args.namespace.now) (sym c.in_ok-put_job.ensures)
    (still_left (view c.args.tables.now c.args.change.now) c.args.namespace.now (with_job c.args.id.now c.args.job) (λ t. refl) c.requires)

pub returns : goal.returns
returns c = done_as c.make.result c.args.tables.now c.make.new.change _ _
    (λ i. make c.args.namespace.now (λ _. (c.in_ok-evaluation.ensures
    ∙ ap (λ (d : Document). evaluation_of c.args.id.now d c.args.trigger) c.get.ensures) i) (c.in_ok-put_job.ensures i)) c.make.ensures

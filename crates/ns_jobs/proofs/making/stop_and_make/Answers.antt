use Rattle.std.specs.Prelude.{◌≡◌}
use Rattle.std.proofs.Common.{sym, subst, ◌∙◌}
use Rattle.ns_types.specs.declared.allocation.DesiredStatus.TheVariants as DesiredStatus
use Rattle.ns_types.specs.Settling.Making.{change_tenant, make, with_desired}
use Rattle.ns_change.specs.Changed.{HasEvaluationLeft, view}
use Rattle.ns_change.proofs.Prepares.{done_as}
use Rattle.ns_jobs.proofs.Prepared.{still_left, stop_keeps}
use Rattle.ns_jobs.proofs.making.stop_and_make.Goals as goal

pub make-requires : goal.make-requires
make-requires c =
    let ns = c.args.namespace.now in
    let key_is : c.new-key.result ≡ (ns, c.args.number) = c.new-key.ensures ∙ (λ j. (c.in_ok-clone.ensures.cases j, c.args.number)) in
    let seen = view c.args.tables.now c.args.change.now in
    subst (λ w. HasEvaluationLeft w ns)
    (sym (c.in_ok-set_desired.ensures ∙ (λ i. change_tenant (key_is i).0 (with_desired (key_is i).1 DesiredStatus.Stop) seen)))
    (still_left seen ns (with_desired c.args.number DesiredStatus.Stop) (stop_keeps c.args.number) c.requires)

pub returns : goal.returns
returns c =
    let ns = c.args.namespace.now in
    let key_is : c.new-key.result ≡ (ns, c.args.number) = c.new-key.ensures ∙ (λ j. (c.in_ok-clone.ensures.cases j, c.args.number)) in
    let seen = view c.args.tables.now c.args.change.now in
    let stopped = c.in_ok-set_desired.ensures ∙ (λ i. change_tenant (key_is i).0 (with_desired (key_is i).1 DesiredStatus.Stop) seen) in
    done_as c.make.result c.args.tables.now c.make.new.change _ _
    (λ i. make ns (λ _. c.in_ok-evaluation.ensures i) (stopped i)) c.make.ensures

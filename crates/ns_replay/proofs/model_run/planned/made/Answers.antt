use Rattle.std.specs.Prelude.{Some, Err}
use Rattle.std.proofs.Common.{refl, ap, sym, subst, ◌∙◌}
use Rattle.std.proofs.lemmas.Result.{err_from_is_err_and}
use Rattle.ns_schedule.specs.Fits.{fits}
use Rattle.ns_replay.proofs.Planning.{plans}
use Rattle.ns_replay.proofs.model_run.planned.made.Goals as goal
use Rattle.ns_replay.specs.Planned.{PlansKept}

pub returns-in_err-share : goal.returns-in_err-share
returns-in_err-share c =
    let p = err_from_is_err_and c.from_residual.result c.from_residual.ensures.1 in
    subst (PlansKept (Some c.args.seen.now)) (sym (p.1 ∙ ap Err p.2)) refl

pub returns : goal.returns
returns c = plans (Some c.args.seen.now) c.in_ok-share.field-0 (ap Some (sym c.in_ok-share.ensures))
    (ap fits c.in_ok-share.ensures ∙ c.requires) c.plan.result c.plan.ensures.ok c.plan.ensures.err

use Rattle.std.specs.Prelude.{Some, Err}
use Rattle.std.proofs.Common.{refl, ap, sym, subst, ◌∙◌}
use Rattle.std.proofs.lemmas.Result.{err_from_is_err_and}
use Rattle.ns_replay.proofs.model_run.planned.shared.Goals as goal
use Rattle.ns_replay.specs.Planned.{PlansKept}

pub returns-in_err-share : goal.returns-in_err-share
returns-in_err-share c =
    let p = err_from_is_err_and c.from_residual.result c.from_residual.ensures.1 in
    subst (PlansKept (Some c.args.planned.now)) (sym (p.1 ∙ ap Err p.2)) refl

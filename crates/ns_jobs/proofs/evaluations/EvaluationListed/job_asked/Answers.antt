use Rattle.std.proofs.Common.{◌≡◌, subst, true}
use Rattle.ns_jobs.specs.Read.{evaluation_shown, lists_evaluation}
use Rattle.ns_jobs.proofs.evaluations.EvaluationListed.job_asked.Goals as goal

pub returns-in-JobEvaluations : goal.returns-in-JobEvaluations
returns-in-JobEvaluations c ns n x listed = subst (λ command. lists_evaluation command (evaluation_shown ns n x) ≡ true) c.in-JobEvaluations.is listed

use Rattle.std.proofs.Common.{subst, sym}
use Rattle.ns_types.specs.State.Rows.{is_blocked, is_pending}
use Rattle.ns_tables.specs.Evaluations.{HasEvaluationRoom}
use Rattle.ns_tables.specs.Filing.{IsIndexOf, evaluation_job, job_where}
use Rattle.ns_tables.proofs.evaluations.EvaluationTable.apply.Goals as goal

pub refile-requires-clause-room : goal.refile-requires-clause-room
refile-requires-clause-room c = (subst (HasEvaluationRoom c.args.changes) (sym c.self.view_is) c.requires).jobs

pub refile-requires-2-clause-room : goal.refile-requires-2-clause-room
refile-requires-2-clause-room c = (subst (HasEvaluationRoom c.args.changes) (sym c.self.view_is) c.requires).pending

pub refile-requires-3-clause-room : goal.refile-requires-3-clause-room
refile-requires-3-clause-room c = (subst (HasEvaluationRoom c.args.changes) (sym c.self.view_is) c.requires).blocked

pub invariant_of-self : goal.invariant_of-self
invariant_of-self c = record {
  jobs = subst (IsIndexOf evaluation_job c.refile.new.numbers) (sym c.apply.ensures) c.refile.ensures;
  pending = subst (IsIndexOf (job_where is_pending) c.refile-2.new.numbers) (sym c.apply.ensures) c.refile-2.ensures;
  blocked = subst (IsIndexOf (job_where is_blocked) c.refile-3.new.numbers) (sym c.apply.ensures) c.refile-3.ensures;
}

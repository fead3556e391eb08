use Rattle.std.proofs.Common.{sym, ap, subst, ◌∙◌}
use Rattle.keyed.proofs.Tables.{rows-empty}
use Rattle.keyed.specs.Table.{rows}
use Rattle.ns_types.specs.State.Rows.{is_blocked, is_pending}
use Rattle.ns_tables.proofs.Filed.{none_indexed}
use Rattle.ns_tables.specs.Filing.{IsIndexOf, evaluation_job, job_where}
use Rattle.ns_tables.proofs.evaluations.EvaluationTable.new.Goals as goal

pub invariant_of-result : goal.invariant_of-result
invariant_of-result c = record {
  jobs = subst (IsIndexOf evaluation_job c.new-2.result) (sym (ap rows c.new.ensures ∙ rows-empty))
      (none_indexed evaluation_job c.new-2.result c.new-2.ensures);
  pending = subst (IsIndexOf (job_where is_pending) c.new-3.result) (sym (ap rows c.new.ensures ∙ rows-empty))
      (none_indexed (job_where is_pending) c.new-3.result c.new-3.ensures);
  blocked = subst (IsIndexOf (job_where is_blocked) c.new-4.result) (sym (ap rows c.new.ensures ∙ rows-empty))
      (none_indexed (job_where is_blocked) c.new-4.result c.new-4.ensures);
}

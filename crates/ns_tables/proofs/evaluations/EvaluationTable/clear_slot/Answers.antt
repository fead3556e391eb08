use Rattle.std.proofs.Common.{ap, ◌∙◌}
use Rattle.keyed.proofs.Tables.{rows-without_vacant}
use Rattle.keyed.specs.Table.{rows}
use Rattle.ns_types.proofs.Named.{numbers, one_number}
use Rattle.ns_types.specs.State.Rows.{is_blocked, is_pending}
use Rattle.ns_tables.proofs.Filed.{still_indexed}
use Rattle.ns_tables.specs.Filing.{evaluation_job, job_where}
use Rattle.ns_tables.proofs.evaluations.EvaluationTable.clear_slot.Goals as goal

pub invariant_of-self : goal.invariant_of-self
invariant_of-self c =
    let same = ap rows c.clear_slot.ensures ∙ rows-without_vacant numbers one_number c.self.inside.slots c.args.slot.now.0 in
    record {
      jobs = still_indexed evaluation_job c.self.inside.jobs c.clear.new.numbers _ _ c.clear.ensures same c.self.invariant.jobs;
      pending = still_indexed (job_where is_pending) c.self.inside.pending c.clear-2.new.numbers _ _ c.clear-2.ensures same c.self.invariant.pending;
      blocked = still_indexed (job_where is_blocked) c.self.inside.blocked c.clear-3.new.numbers _ _ c.clear-3.ensures same c.self.invariant.blocked;
    }

use Rattle.std.proofs.Common.{sym, ap, subst, ◌∙◌}
use Rattle.keyed.proofs.Tables.{rows-empty}
use Rattle.keyed.specs.Table.{rows}
use Rattle.ns_tables.proofs.Filed.{none_indexed}
use Rattle.ns_tables.proofs.Totals.{total_none}
use Rattle.ns_tables.specs.Filing.{IsIndexOf, allocation_job}
use Rattle.ns_tables.proofs.allocations.AllocationTable.new.Goals as goal

pub invariant_of-result : goal.invariant_of-result
invariant_of-result c = record {
  jobs = subst (IsIndexOf allocation_job c.new-2.result) (sym (ap rows c.new.ensures ∙ rows-empty))
      (none_indexed allocation_job c.new-2.result c.new-2.ensures);
  total = total_none c.none.result c.new.result c.none.ensures c.new.ensures;
}

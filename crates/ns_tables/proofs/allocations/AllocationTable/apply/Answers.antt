use Rattle.std.proofs.Common.{subst, sym}
use Rattle.keyed.specs.Over.{over}
use Rattle.keyed.specs.Table.{rows}
use Rattle.ns_tables.specs.Allocations.{HasAllocationRoom, rows_use}
use Rattle.ns_tables.specs.Filing.{IsIndexOf, allocation_job}
use Rattle.ns_types.specs.State.Resources.{IsTotal}
use Rattle.ns_tables.proofs.allocations.AllocationTable.apply.Goals as goal

pub refile-requires-clause-room : goal.refile-requires-clause-room
refile-requires-clause-room c = (subst (HasAllocationRoom c.args.changes) (sym c.self.view_is) c.requires).jobs

pub invariant_of-self : goal.invariant_of-self
invariant_of-self c = record {
  jobs = subst (IsIndexOf allocation_job c.refile.new.numbers) (sym c.apply.ensures) c.refile.ensures;
  total = subst (λ m. IsTotal c.total_with-self-inside.result (rows_use m)) (sym c.apply.ensures)
      (subst (λ t. IsTotal c.total_with-self-inside.result (rows_use (over (rows t.slots) c.args.changes))) (sym c.self.view_is)
      c.total_with-self-inside.ensures);
}

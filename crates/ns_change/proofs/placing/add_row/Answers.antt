use Rattle.std.proofs.Common.{ap, sym, ◌∙◌, subst, ◌+◌}
use Rattle.std.specs.Prelude.{Some, IsTrue}
use Rattle.std.specs.FinMap.{insert}
use Rattle.keyed.specs.Table.{has_slot}
use Rattle.keyed.specs.Over.{over}
use Rattle.keyed.proofs.Tables.{has_slot-with_slot_here}
use Rattle.ns_types.proofs.Named.{numbers, one_number}
use Rattle.ns_change.specs.Changed.{changed_tenant}
use Rattle.ns_change.proofs.Opening.{over-slot}
use Rattle.ns_change.proofs.placing.add_row.Goals as goal

pub set-requires : goal.set-requires
set-requires c = subst (λ m. IsTrue (has_slot m (c.args.tenant.now.allocation_number + 1))) (sym c.in_ok-reserve.ensures.ok)
    (has_slot-with_slot_here numbers c.args.tenant.now.allocations (c.args.tenant.now.allocation_number + 1))

pub returns : goal.returns
returns c =
    let n = c.args.tenant.now.allocation_number + 1 in
    λ base i. record (changed_tenant base c.args.tenant.now) {
      allocation_number = n;
      allocations =
          (ap (over base.allocations) (c.set.ensures ∙ ap (λ m. insert m n (Some c.args.row)) c.in_ok-reserve.ensures.ok) ∙
          over-slot numbers one_number base.allocations c.args.tenant.now.allocations n c.args.row) i;
    }

use Rattle.std.proofs.Common.{ap, sym, ◌∙◌}
use Rattle.std.specs.Option.{option_copied}
use Rattle.ns_types.specs.State.Rows.{allocation_at}
use Rattle.ns_change.specs.Changed.{put_allocation, view}
use Rattle.ns_types.specs.declared.allocation.Allocation.{Allocation}
use Rattle.ns_types.specs.State.Rows.{Tenant}
use Rattle.ns_change.proofs.NumberedRows.{row_nowhere}
use Rattle.ns_change.proofs.evicting.set_desired.Goals as goal

pub returns-in_default : goal.returns-in_default
returns-in_default c = row_nowhere (λ (t : Tenant). t.allocations) put_allocation c.args.key.now.1
    (λ (a : Allocation). record a { desired = c.args.desired }) (view c.args.tables.now c.args.change.now) c.args.key.now.0
    (ap (allocation_at (view c.args.tables.now c.args.change.now)) (λ i. (sym c.namespace.ensures i, sym c.number.ensures i)) ∙ sym c.allocation.ensures ∙
    ap option_copied c.in_default.is)

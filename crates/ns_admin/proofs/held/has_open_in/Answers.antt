use Rattle.std.proofs.Common.{ap, ◌∙◌}
use Rattle.std.specs.FinMap.{entries}
use Rattle.std.specs.Prelude.{◌&&◌}
use Rattle.ns_types.specs.State.Rows.{is_open}
use Rattle.ns_admin.specs.Asked.{passes}
use Rattle.ns_admin.proofs.Holdings.{by_slots}
use Rattle.ns_admin.proofs.held.has_open_in.Goals as goal

pub returns : goal.returns
returns c = by_slots (λ _ e. is_open e.status && passes c.args.asked.now e.pool) c.args.tenant.now.evaluations.slots _ _
    (c.as_slice.ensures ∙ ap entries c.rows.ensures) c.any_open_in.ensures

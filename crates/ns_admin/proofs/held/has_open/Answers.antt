use Rattle.std.proofs.Common.{ap, ◌∙◌}
use Rattle.std.specs.FinMap.{entries}
use Rattle.ns_types.specs.State.Rows.{is_open}
use Rattle.ns_admin.proofs.Holdings.{by_slots}
use Rattle.ns_admin.proofs.held.has_open.Goals as goal

pub returns : goal.returns
returns c = by_slots (λ _ e. is_open e.status) c.args.tenant.now.evaluations.slots _ _ (c.as_slice.ensures ∙ ap entries c.rows.ensures) c.any_unfinished.ensures

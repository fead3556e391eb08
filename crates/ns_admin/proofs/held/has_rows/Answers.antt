use Rattle.std.specs.Prelude.{true}
use Rattle.ns_admin.proofs.Holdings.{by_slots}
use Rattle.ns_admin.proofs.held.has_rows.Goals as goal

pub returns : goal.returns
returns g c = by_slots (λ _ _. true) c.args.table.now _ _ c.as_slice.ensures c.any_there.ensures

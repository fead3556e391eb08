use Rattle.std.specs.Prelude.{None}
use Rattle.std.proofs.Common.{◌∙◌}
use Rattle.ns_types.specs.Asking.Admins.{with_pool}
use Rattle.ns_admin.proofs.beginning.opening_pool.Goals as goal

pub returns : goal.returns
returns c = c.new_pool.ensures ∙ (λ i. with_pool (record { description = c.in_ok-from_str.ensures i }) None)

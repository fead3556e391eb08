use Rattle.std.proofs.Common.{◌≡◌, subst}
use Rattle.std.specs.Prelude.{IfOk, None}
use Rattle.ns_types.specs.Asking.Admins.{new_tenant}
use Rattle.ns_tables.specs.World.{tenant_of}
use Rattle.ns_admin.proofs.beginning.opening_tenant.Goals as goal

pub returns : goal.returns
returns c = subst (λ namespace. IfOk c.new_tenant.result (λ tenant. tenant_of tenant ≡ new_tenant namespace))
    (λ i. record {
      description = c.in_ok-from_str.ensures i;
      quota = None;
      default_pool = c.in_ok-from_str-2.ensures i;
      allowed = None;
      denied = c.new.ensures i;
    })
    c.new_tenant.ensures

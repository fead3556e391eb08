use Rattle.std.specs.Prelude.{true, Some, None}
use Rattle.std.proofs.Common.{sym, ap, ◌∙◌}
use Rattle.std.specs.Option.{option_copied, option_map_or}
use Rattle.ns_admin.proofs.World.{tenant_is}
use Rattle.ns_types.specs.Access.Sharing.{stays_within}
use Rattle.ns_admin.proofs.confinement.stays_there.Goals as goal

pub returns-in-Some : goal.returns-in-Some
returns-in-Some c = c.stays_within.ensures ∙ sym (ap (λ x. option_map_or (stays_within c.args.pools.now c.args.quotas.now) x true)
    (tenant_is c.args.tables.now c.args.namespace.now (Some c.in-Some.tenant.now) (sym c.get.ensures ∙ ap option_copied c.in-Some.is)))

pub returns-in-None : goal.returns-in-None
returns-in-None c = sym (ap (λ x. option_map_or (stays_within c.args.pools.now c.args.quotas.now) x true)
    (tenant_is c.args.tables.now c.args.namespace.now None (sym c.get.ensures ∙ ap option_copied c.in-None.is)))

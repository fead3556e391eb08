use Rattle.std.specs.Prelude.{false, Some, None}
use Rattle.std.proofs.Common.{sym, ap, ◌∙◌}
use Rattle.std.specs.Option.{option_copied, option_map_or}
use Rattle.ns_types.specs.Access.Sharing.{permits}
use Rattle.ns_admin.proofs.World.{tenant_is}
use Rattle.ns_admin.proofs.looking.permits_in.Goals as goal

pub returns-in-Some : goal.returns-in-Some
returns-in-Some c = c.permits.ensures ∙ sym (ap (λ x. option_map_or (λ t. permits t.namespace c.args.pool.now) x false)
    (tenant_is c.args.tables.now c.args.name.now (Some c.in-Some.tenant.now) (sym c.get.ensures ∙ ap option_copied c.in-Some.is)))

pub returns-in-None : goal.returns-in-None
returns-in-None c = sym (ap (λ x. option_map_or (λ t. permits t.namespace c.args.pool.now) x false)
    (tenant_is c.args.tables.now c.args.name.now None (sym c.get.ensures ∙ ap option_copied c.in-None.is)))

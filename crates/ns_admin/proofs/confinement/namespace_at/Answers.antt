use Rattle.std.proofs.Common.{ap, sym, ◌∙◌}
use Rattle.std.specs.Prelude.{option_copied, option_map}
use Rattle.ns_types.specs.State.Rows.{Tenant}
use Rattle.ns_tables.specs.World.{tenant_of}
use Rattle.ns_tables.proofs.World.{tenant_at}
use Rattle.ns_admin.proofs.confinement.namespace_at.Goals as goal

pub returns-in-Some : goal.returns-in-Some
returns-in-Some c = sym (ap (option_map (λ (t : Tenant). t.namespace)) (tenant_at c.args.tables.now c.args.name.now
    ∙ ap (option_map tenant_of) (sym c.get.ensures ∙ ap option_copied c.in-Some.is)))

pub returns-in-None : goal.returns-in-None
returns-in-None c = sym (ap (option_map (λ (t : Tenant). t.namespace)) (tenant_at c.args.tables.now c.args.name.now
    ∙ ap (option_map tenant_of) (sym c.get.ensures ∙ ap option_copied c.in-None.is)))

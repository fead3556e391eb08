use Rattle.std.specs.Prelude.{option_map}
use Rattle.std.proofs.Common.{sym, ap, ◌∙◌}
use Rattle.std.specs.Option.{option_copied}
use Rattle.ns_types.specs.State.Rows.{Tenant}
use Rattle.ns_admin.proofs.World.{tenant_is}
use Rattle.ns_core.proofs.parts.Parts.index.Goals as goal

pub returns-in-Some : goal.returns-in-Some
returns-in-Some c = sym (ap (option_map (λ (t : Tenant). t.index))
    (tenant_is c.args.self.now.tables c.args.namespace.now _ (sym c.get.ensures ∙ ap option_copied c.in-Some.is)))

pub returns-in-None : goal.returns-in-None
returns-in-None c = sym (ap (option_map (λ (t : Tenant). t.index))
    (tenant_is c.args.self.now.tables c.args.namespace.now _ (sym c.get.ensures ∙ ap option_copied c.in-None.is)))

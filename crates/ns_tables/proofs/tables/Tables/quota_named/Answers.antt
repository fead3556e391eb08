use Rattle.std.proofs.Common.{ap, sym, ◌∙◌}
use Rattle.std.specs.Option.{option_and_then, option_copied, option_map}
use Rattle.ns_types.specs.State.Rows.{Tenant}
use Rattle.ns_tables.specs.World.{tenant_of}
use Rattle.ns_tables.proofs.World.{tenant_at}
use Rattle.ns_tables.proofs.tables.Tables.quota_named.Goals as goal

pub returns-in-Some : goal.returns-in-Some
returns-in-Some c = c.as_ref.ensures.value ∙ sym (ap (option_and_then (λ (t : Tenant). t.namespace.quota))
    (tenant_at c.args.self.now c.args.namespace.now ∙ ap (option_map tenant_of) (sym c.get.ensures ∙ ap option_copied c.in-Some.is)))

pub returns-in-None : goal.returns-in-None
returns-in-None c = sym (ap (option_and_then (λ (t : Tenant). t.namespace.quota))
    (tenant_at c.args.self.now c.args.namespace.now ∙ ap (option_map tenant_of) (sym c.get.ensures ∙ ap option_copied c.in-None.is)))

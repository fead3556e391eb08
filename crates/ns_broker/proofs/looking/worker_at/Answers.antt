use Rattle.std.proofs.Common.{ap, sym, ◌∙◌}
use Rattle.std.specs.FinMap.{get}
use Rattle.std.specs.Option.{option_and_then, option_copied}
use Rattle.std.specs.Prelude.{option_map}
use Rattle.keyed.proofs.Tables.{get-rows}
use Rattle.ns_types.proofs.Named.{numbers}
use Rattle.ns_types.specs.State.Rows.{Tenant}
use Rattle.ns_broker.proofs.looking.worker_at.Goals as goal
use Rattle.ns_tables.proofs.World.{tenant_at}
use Rattle.ns_tables.specs.World.{tenant_of}

pub returns-in-Some : goal.returns-in-Some
returns-in-Some c = c.get-in-Some.ensures ∙ sym (ap (option_and_then (λ (t : Tenant). get t.workers c.args.number))
    (tenant_at c.args.tables.now c.args.namespace.now ∙ ap (option_map tenant_of) (sym c.get.ensures ∙ ap option_copied c.in-Some.is))
    ∙ get-rows numbers c.in-Some.tenant.now.workers c.args.number)

pub returns-in-None : goal.returns-in-None
returns-in-None c = sym (ap (option_and_then (λ (t : Tenant). get t.workers c.args.number))
    (tenant_at c.args.tables.now c.args.namespace.now ∙ ap (option_map tenant_of) (sym c.get.ensures ∙ ap option_copied c.in-None.is)))

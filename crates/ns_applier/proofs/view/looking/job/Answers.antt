use Rattle.std.proofs.Common.{ap, sym, ◌∙◌, Some, None}
use Rattle.std.specs.FinMap.{get}
use Rattle.std.specs.Option.{option_and_then, option_copied}
use Rattle.keyed.proofs.Tables.{get-rows}
use Rattle.ns_admin.proofs.World.{tenant_is}
use Rattle.ns_types.proofs.Named.{names}
use Rattle.ns_types.specs.State.Rows.{Tenant}
use Rattle.ns_applier.proofs.view.looking.job.Goals as goal

pub returns-in-Some : goal.returns-in-Some
returns-in-Some c = c.get-in-Some.ensures ∙ sym (ap (option_and_then (λ (t : Tenant). get t.jobs c.args.id.now))
    (tenant_is c.args.tables.now c.args.namespace.now (Some c.in-Some.tenant.now) (sym c.get.ensures ∙ ap option_copied c.in-Some.is))
    ∙ get-rows names c.in-Some.tenant.now.jobs c.args.id.now)

pub returns-in-None : goal.returns-in-None
returns-in-None c = sym (ap (option_and_then (λ (t : Tenant). get t.jobs c.args.id.now))
    (tenant_is c.args.tables.now c.args.namespace.now None (sym c.get.ensures ∙ ap option_copied c.in-None.is)))

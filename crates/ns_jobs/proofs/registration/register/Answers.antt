use Rattle.std.proofs.Common.{ap, sym, ◌∙◌}
use Rattle.std.specs.Option.{option_copied}
use Rattle.ns_types.specs.declared.step.AskCommand.TheVariants as AskCommand
use Rattle.ns_tables.specs.World.{tenant_of, world_of}
use Rattle.ns_change.proofs.Prepares.{prepares_as}
use Rattle.ns_jobs.proofs.Asked.{nowhere, register_full, register_refused, registers}
use Rattle.ns_jobs.proofs.Prepared.{absent, there}
use Rattle.ns_jobs.proofs.registration.register.Goals as goal

pub returns-in_default : goal.returns-in_default
returns-in_default c = nowhere (world_of c.args.tables.now) c.args.namespace.now (AskCommand.Register c.args.registration.now)
    (absent c.args.tables.now c.args.namespace.now (sym c.get.ensures ∙ ap option_copied c.in_default.is))

pub returns-in-Some-first_refusal : goal.returns-in-Some-first_refusal
returns-in-Some-first_refusal c = register_refused (world_of c.args.tables.now) c.args.namespace.now c.args.registration.now (tenant_of c.in-Some.tenant.now)
    (there c.args.tables.now c.args.namespace.now c.in-Some.tenant.now (sym c.get.ensures ∙ ap option_copied c.in-Some.is)) c.args.tables.now
    c.in-Some-first_refusal.refusal (sym c.first_refusal.ensures ∙ c.in-Some-first_refusal.is)

pub returns-in_default-next_numbers : goal.returns-in_default-next_numbers
returns-in_default-next_numbers c = register_full (world_of c.args.tables.now) c.args.namespace.now c.args.registration.now (tenant_of c.in-Some.tenant.now)
    (there c.args.tables.now c.args.namespace.now c.in-Some.tenant.now (sym c.get.ensures ∙ ap option_copied c.in-Some.is))
    (sym c.first_refusal.ensures ∙ c.in_default-first_refusal.is) c.in_default-next_numbers.ensures

pub registered-requires-clause-versions : goal.registered-requires-clause-versions
registered-requires-clause-versions c = c.requires (tenant_of c.in-Some.tenant.now)
    (there c.args.tables.now c.args.namespace.now c.in-Some.tenant.now (sym c.get.ensures ∙ ap option_copied c.in-Some.is))

pub returns : goal.returns
returns c = prepares_as _ _ c.args.tables.now c.registered.result
    (registers (world_of c.args.tables.now) c.args.namespace.now c.args.registration.now (tenant_of c.in-Some.tenant.now)
    (there c.args.tables.now c.args.namespace.now c.in-Some.tenant.now (sym c.get.ensures ∙ ap option_copied c.in-Some.is))
    (sym c.first_refusal.ensures ∙ c.in_default-first_refusal.is) c.in-Some-next_numbers.ensures.fits) c.registered.ensures

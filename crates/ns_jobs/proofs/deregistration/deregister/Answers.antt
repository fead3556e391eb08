use Rattle.std.proofs.Common.{ap, sym, ◌∙◌}
use Rattle.std.specs.Option.{option_copied}
use Rattle.ns_types.specs.declared.step.AskCommand.TheVariants as AskCommand
use Rattle.ns_tables.specs.World.{tenant_of, world_of}
use Rattle.ns_change.proofs.Prepares.{prepares_as}
use Rattle.ns_jobs.proofs.Asked.{deregister_full, deregisters, no_job, nowhere}
use Rattle.ns_jobs.proofs.Prepared.{absent, there}
use Rattle.ns_jobs.proofs.deregistration.deregister.Goals as goal

pub returns-in_default : goal.returns-in_default
returns-in_default c = nowhere (world_of c.args.tables.now) c.args.namespace.now (AskCommand.Deregister c.args.id.now c.args.purge)
    (absent c.args.tables.now c.args.namespace.now (sym c.get.ensures ∙ ap option_copied c.in_default.is))

pub returns-in_default-job : goal.returns-in_default-job
returns-in_default-job c = no_job (world_of c.args.tables.now) c.args.namespace.now c.args.id.now c.args.purge (tenant_of c.in-Some.tenant.now)
    (there c.args.tables.now c.args.namespace.now c.in-Some.tenant.now (sym c.get.ensures ∙ ap option_copied c.in-Some.is))
    (sym c.job.ensures ∙ ap option_copied c.in_default-job.is)

pub returns-in_default-next_numbers : goal.returns-in_default-next_numbers
returns-in_default-next_numbers c =
    deregister_full (world_of c.args.tables.now) c.args.namespace.now c.args.id.now c.args.purge (tenant_of c.in-Some.tenant.now)
    (there c.args.tables.now c.args.namespace.now c.in-Some.tenant.now (sym c.get.ensures ∙ ap option_copied c.in-Some.is))
    c.in-Some-job.job.now (sym c.job.ensures ∙ ap option_copied c.in-Some-job.is) c.in_default-next_numbers.ensures

pub returns : goal.returns
returns c = prepares_as _ _ c.args.tables.now c.deregistered.result
    (deregisters (world_of c.args.tables.now) c.args.namespace.now c.args.id.now c.args.purge (tenant_of c.in-Some.tenant.now)
    (there c.args.tables.now c.args.namespace.now c.in-Some.tenant.now (sym c.get.ensures ∙ ap option_copied c.in-Some.is))
    c.in-Some-job.job.now (sym c.job.ensures ∙ ap option_copied c.in-Some-job.is) c.in-Some-next_numbers.ensures.fits) c.deregistered.ensures

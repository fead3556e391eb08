use Rattle.std.proofs.Common.{ap, sym, ◌∙◌}
use Rattle.std.specs.Option.{option_copied}
use Rattle.ns_types.specs.declared.refusal.Refusal.TheVariants as Refusal
use Rattle.ns_types.specs.declared.step.AskCommand.TheVariants as AskCommand
use Rattle.ns_tables.specs.World.{tenant_of, world_of}
use Rattle.ns_change.proofs.Bounded.{still_refused}
use Rattle.ns_change.proofs.Prepares.{prepares_as}
use Rattle.ns_jobs.proofs.Asked.{ask_nowhere, no_allocation, not_live, stop_full, stops, too_few}
use Rattle.ns_jobs.proofs.Prepared.{absent, there}
use Rattle.ns_jobs.proofs.stopping.stop_allocation.Goals as goal

pub returns-in_default : goal.returns-in_default
returns-in_default c = still_refused (world_of c.args.tables.now) _ Refusal.NotFound
    (ask_nowhere (world_of c.args.tables.now) c.args.namespace.now (AskCommand.StopAllocation c.args.number)
    (absent c.args.tables.now c.args.namespace.now (sym c.get.ensures ∙ ap option_copied c.in_default.is)))

pub returns-in_default-allocation : goal.returns-in_default-allocation
returns-in_default-allocation c = no_allocation (world_of c.args.tables.now) c.args.namespace.now c.args.number (tenant_of c.in-Some.tenant.now)
    (there c.args.tables.now c.args.namespace.now c.in-Some.tenant.now (sym c.get.ensures ∙ ap option_copied c.in-Some.is))
    (sym c.allocation.ensures ∙ ap option_copied c.in_default-allocation.is)

pub returns-then-not-is_live : goal.returns-then-not-is_live
returns-then-not-is_live c = not_live (world_of c.args.tables.now) c.args.namespace.now c.args.number (tenant_of c.in-Some.tenant.now)
    (there c.args.tables.now c.args.namespace.now c.in-Some.tenant.now (sym c.get.ensures ∙ ap option_copied c.in-Some.is))
    c.in-Some-allocation.row.now (sym c.allocation.ensures ∙ ap option_copied c.in-Some-allocation.is) (sym c.is_live.ensures ∙ c.if-not-is_live.true)

pub returns-in_default-next_numbers : goal.returns-in_default-next_numbers
returns-in_default-next_numbers c = too_few (world_of c.args.tables.now) c.args.namespace.now c.args.number (tenant_of c.in-Some.tenant.now)
    (there c.args.tables.now c.args.namespace.now c.in-Some.tenant.now (sym c.get.ensures ∙ ap option_copied c.in-Some.is))
    c.in-Some-allocation.row.now (sym c.allocation.ensures ∙ ap option_copied c.in-Some-allocation.is) (sym c.is_live.ensures ∙ c.if-not-is_live.false)
    c.requires c.in_default-next_numbers.ensures

pub returns-then-ending_passes : goal.returns-then-ending_passes
returns-then-ending_passes c = stop_full (world_of c.args.tables.now) c.args.namespace.now c.args.number (tenant_of c.in-Some.tenant.now)
    (there c.args.tables.now c.args.namespace.now c.in-Some.tenant.now (sym c.get.ensures ∙ ap option_copied c.in-Some.is))
    c.in-Some-allocation.row.now (sym c.allocation.ensures ∙ ap option_copied c.in-Some-allocation.is) (sym c.is_live.ensures ∙ c.if-not-is_live.false)
    c.requires c.in-Some-next_numbers.ensures.fits (sym c.ending_passes.ensures ∙ c.if-ending_passes.true)

pub returns : goal.returns
returns c = prepares_as _ _ c.args.tables.now c.stopped.result
    (stops (world_of c.args.tables.now) c.args.namespace.now c.args.number (tenant_of c.in-Some.tenant.now)
    (there c.args.tables.now c.args.namespace.now c.in-Some.tenant.now (sym c.get.ensures ∙ ap option_copied c.in-Some.is))
    c.in-Some-allocation.row.now (sym c.allocation.ensures ∙ ap option_copied c.in-Some-allocation.is) (sym c.is_live.ensures ∙ c.if-not-is_live.false)
    c.requires c.in-Some-next_numbers.ensures.fits (sym c.ending_passes.ensures ∙ c.if-ending_passes.false)) c.stopped.ensures

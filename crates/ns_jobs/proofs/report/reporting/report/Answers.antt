use Rattle.std.proofs.Common.{ap, sym, ◌∙◌}
use Rattle.std.specs.Option.{option_copied}
use Rattle.ns_tables.specs.World.{tenant_of, world_of}
use Rattle.ns_change.proofs.Prepares.{prepares_as}
use Rattle.ns_jobs.proofs.Prepared.{absent, there}
use Rattle.ns_jobs.proofs.ReportAsked.{elsewhere, no_allocation, no_namespace, nowhere, on_it}
use Rattle.ns_jobs.proofs.report.reporting.report.Goals as goal

pub returns-then-not-has_node : goal.returns-then-not-has_node
returns-then-not-has_node c = nowhere (world_of c.args.tables.now) c.args.pool.now c.args.name.now c.args.report.now
    (sym c.has_node.ensures ∙ c.if-not-has_node.true)

pub returns-in_default : goal.returns-in_default
returns-in_default c = no_namespace (world_of c.args.tables.now) c.args.pool.now c.args.name.now c.args.report.now
    (sym c.has_node.ensures ∙ c.if-not-has_node.false)
    (absent c.args.tables.now c.args.report.now.namespace (sym c.get.ensures ∙ ap option_copied c.in_default.is))

pub returns-in_default-allocation : goal.returns-in_default-allocation
returns-in_default-allocation c = no_allocation (world_of c.args.tables.now) c.args.pool.now c.args.name.now c.args.report.now
    (sym c.has_node.ensures ∙ c.if-not-has_node.false) (tenant_of c.in-Some.tenant.now)
    (there c.args.tables.now c.args.report.now.namespace c.in-Some.tenant.now (sym c.get.ensures ∙ ap option_copied c.in-Some.is))
    (sym c.allocation.ensures ∙ ap option_copied c.in_default-allocation.is)

pub returns-then-not-is_on : goal.returns-then-not-is_on
returns-then-not-is_on c = elsewhere (world_of c.args.tables.now) c.args.pool.now c.args.name.now c.args.report.now
    (sym c.has_node.ensures ∙ c.if-not-has_node.false) (tenant_of c.in-Some.tenant.now)
    (there c.args.tables.now c.args.report.now.namespace c.in-Some.tenant.now (sym c.get.ensures ∙ ap option_copied c.in-Some.is))
    c.in-Some-allocation.row.now (sym c.allocation.ensures ∙ ap option_copied c.in-Some-allocation.is) (sym c.is_on.ensures ∙ c.if-not-is_on.true)

pub report_of-requires-clause-tenant : goal.report_of-requires-clause-tenant
report_of-requires-clause-tenant c = sym c.get.ensures ∙ ap option_copied c.in-Some.is

pub report_of-requires-clause-row : goal.report_of-requires-clause-row
report_of-requires-clause-row c = sym c.allocation.ensures ∙ ap option_copied c.in-Some-allocation.is

pub returns : goal.returns
returns c = prepares_as _ _ c.args.tables.now c.report_of.result
    (on_it (world_of c.args.tables.now) c.args.pool.now c.args.name.now c.args.report.now
    (sym c.has_node.ensures ∙ c.if-not-has_node.false) (tenant_of c.in-Some.tenant.now)
    (there c.args.tables.now c.args.report.now.namespace c.in-Some.tenant.now (sym c.get.ensures ∙ ap option_copied c.in-Some.is))
    c.in-Some-allocation.row.now (sym c.allocation.ensures ∙ ap option_copied c.in-Some-allocation.is) (sym c.is_on.ensures ∙ c.if-not-is_on.false))
    c.report_of.ensures

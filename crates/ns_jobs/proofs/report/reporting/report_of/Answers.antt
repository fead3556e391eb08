use Rattle.std.proofs.Common.{ap, sym, ◌∙◌}
use Rattle.ns_types.specs.declared.reply.Content.TheVariants as Content
use Rattle.ns_types.specs.Settling.Outcome.{Done}
use Rattle.ns_tables.specs.World.{tenant_of, world_of}
use Rattle.ns_change.proofs.Prepares.{prepares_as}
use Rattle.ns_jobs.proofs.Prepared.{there}
use Rattle.ns_jobs.proofs.ReportAsked.{again, full, never, written}
use Rattle.ns_jobs.proofs.report.reporting.report_of.Goals as goal

pub returns-then-same_client : goal.returns-then-same_client
returns-then-same_client c = again (world_of c.args.tables.now) c.args.report.now c.args.row.now c.requires.bounds
    (sym c.same_client.ensures ∙ c.if-same_client.true) ∙ ap (Done Content.Written) (sym (c.new.ensures c.args.tables.now))

pub returns-then-not-may_become : goal.returns-then-not-may_become
returns-then-not-may_become c = never (world_of c.args.tables.now) c.args.report.now c.args.row.now c.requires.bounds
    (sym c.same_client.ensures ∙ c.if-same_client.false) (sym c.may_become.ensures ∙ c.if-not-may_become.true)

pub returns-then-report_passes : goal.returns-then-report_passes
returns-then-report_passes c = full (world_of c.args.tables.now) c.args.report.now c.args.row.now c.requires.bounds
    (sym c.same_client.ensures ∙ c.if-same_client.false) (sym c.may_become.ensures ∙ c.if-not-may_become.false) (tenant_of c.args.tenant.now)
    (there c.args.tables.now c.args.report.now.namespace c.args.tenant.now c.requires.tenant) c.requires.row
    (sym c.report_passes.ensures ∙ c.if-report_passes.true)

pub returns : goal.returns
returns c = prepares_as _ _ c.args.tables.now c.reported.result
    (written (world_of c.args.tables.now) c.args.report.now c.args.row.now c.requires.bounds
    (sym c.same_client.ensures ∙ c.if-same_client.false) (sym c.may_become.ensures ∙ c.if-not-may_become.false) (tenant_of c.args.tenant.now)
    (there c.args.tables.now c.args.report.now.namespace c.args.tenant.now c.requires.tenant) c.requires.row
    (sym c.report_passes.ensures ∙ c.if-report_passes.false)) c.reported.ensures

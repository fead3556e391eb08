use Rattle.std.proofs.Common.{ap}
use Rattle.ns_types.specs.Asking.Nodes.{reported}
use Rattle.ns_tables.specs.World.{world_of}
use Rattle.ns_change.proofs.Prepares.{done_as}
use Rattle.ns_jobs.proofs.report.writing.reported.Goals as goal

pub write_report-made-requires-clause-first : goal.write_report-made-requires-clause-first
write_report-made-requires-clause-first c = c.new-change.ensures c.args.tables.now

pub returns : goal.returns
returns c =
    let tables = c.args.tables.now in
    let writes = reported c.args.report.now c.args.row.now in
    c.prepare.ensures tables (writes (world_of tables))
    (done_as _ tables c.write_report-made.new.change _ _ (ap writes (c.new-change.ensures tables)) c.write_report-made.ensures)

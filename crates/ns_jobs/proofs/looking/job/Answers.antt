use Rattle.std.proofs.Common.{sym, ◌∙◌}
use Rattle.keyed.proofs.Tables.{get-rows}
use Rattle.ns_types.proofs.Named.{names}
use Rattle.ns_jobs.proofs.looking.job.Goals as goal

pub returns : goal.returns
returns c = c.get.ensures ∙ sym (get-rows names c.args.tenant.now.jobs c.args.id.now)

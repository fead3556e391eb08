use Rattle.std.proofs.Common.{sym, ◌∙◌}
use Rattle.keyed.proofs.Tables.{get-rows}
use Rattle.ns_types.proofs.Named.{numbers}
use Rattle.ns_jobs.proofs.looking.allocation.Goals as goal

pub returns : goal.returns
returns c = c.get.ensures ∙ sym (get-rows numbers c.args.tenant.now.allocations.slots c.args.number)

use Rattle.std.proofs.Common.{ap, sym, ◌∙◌}
use Rattle.keyed.proofs.Tables.{get-rows}
use Rattle.keyed.specs.Table.{row_at}
use Rattle.ns_types.proofs.Named.{numbers}
use Rattle.ns_jobs.proofs.looking.evaluation.Goals as goal

pub returns : goal.returns
returns c = c.get.ensures ∙ ap (λ m. row_at m c.args.number) c.rows.ensures
    ∙ sym (get-rows numbers c.args.tenant.now.evaluations.slots c.args.number)

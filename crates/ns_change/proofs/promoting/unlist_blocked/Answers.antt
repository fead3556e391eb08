use Rattle.std.proofs.Common.{ap, sym, ◌∙◌}
use Rattle.ns_change.specs.Changed.{view, without_blocked_key}
use Rattle.ns_change.proofs.Prepares.{done_as}
use Rattle.ns_change.proofs.Waiting.{unlist_none, unlist_one}
use Rattle.ns_change.proofs.promoting.unlist_blocked.Goals as goal

pub returns-in_default : goal.returns-in_default
returns-in_default c = unlist_none (view c.args.tables.now c.args.change.now) c.args.namespace.now c.args.job.now (sym c.first_of_job.ensures ∙ c.in_default.is)

pub returns : goal.returns
returns c =
    let w = view c.args.tables.now c.args.change.now in
    done_as c.take_blocked.result c.args.tables.now c.take_blocked.new.change _ _
    (ap (λ key. without_blocked_key key w) (c.new-key.ensures ∙ (λ i. (c.in_ok-clone.ensures.cases i, c.in-Some.number)))
    ∙ unlist_one w c.args.namespace.now c.args.job.now c.in-Some.number (sym c.first_of_job.ensures ∙ c.in-Some.is))
    (c.take_blocked.ensures c.args.tables.now)

use Rattle.std.proofs.Common.{ap, sym, ◌∙◌}
use Rattle.ns_change.specs.Changed.{view, with_ready}
use Rattle.ns_change.proofs.Prepares.{done_as}
use Rattle.ns_change.proofs.Waiting.{promote_busy, promote_none, promote_one}
use Rattle.ns_change.proofs.promoting.promote.Goals as goal

pub returns-then-is_busy : goal.returns-then-is_busy
returns-then-is_busy c = promote_busy (view c.args.tables.now c.args.change.now) c.args.namespace.now c.args.job.now (sym c.is_busy.ensures ∙ c.if-is_busy.true)

pub returns-in_default : goal.returns-in_default
returns-in_default c = promote_none (view c.args.tables.now c.args.change.now) c.args.namespace.now c.args.job.now (sym c.is_busy.ensures ∙ c.if-is_busy.false)
    (sym c.first_of_job.ensures ∙ c.in_default.is)

pub returns : goal.returns
returns c =
    let w = view c.args.tables.now c.args.change.now in
    done_as c.add_ready.result c.args.tables.now c.add_ready.new.change _ _
    (ap (λ key. with_ready key w) (c.new.ensures ∙ (λ i. (c.in_ok-clone.ensures.cases i, c.in-Some.number)))
    ∙ promote_one w c.args.namespace.now c.args.job.now c.in-Some.number (sym c.is_busy.ensures ∙ c.if-is_busy.false)
    (sym c.first_of_job.ensures ∙ c.in-Some.is))
    (c.add_ready.ensures c.args.tables.now)

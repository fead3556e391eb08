use Rattle.std.proofs.Common.{sym, ◌∙◌}
use Rattle.ns_change.specs.Queued.{is_of}
use Rattle.ns_change.proofs.Any.{any_here, any_later, any_none}
use Rattle.ns_change.proofs.queueing.is_among.Goals as goal

pub returns-then-is_of_job : goal.returns-then-is_of_job
returns-then-is_of_job c = any_here (is_of c.args.tables.now c.args.change.now c.args.namespace.now c.args.job.now)
    c.args.keys.now c.loop-key.key-index c.key-item.result c.loop-key-test.true c.key-item.is
    ((λ i. is_of c.args.tables.now c.args.change.now c.args.namespace.now c.args.job.now
    (sym c.namespace.ensures i, sym c.number.ensures i)) ∙ sym c.is_of_job.ensures ∙ c.if-is_of_job.true)

pub loop-key-preserved : goal.loop-key-preserved
loop-key-preserved c = any_later (is_of c.args.tables.now c.args.change.now c.args.namespace.now c.args.job.now)
    c.args.keys.now c.loop-key.key-index c.key-item.result c.loop-key-test.true c.key-item.is
    ((λ i. is_of c.args.tables.now c.args.change.now c.args.namespace.now c.args.job.now
    (sym c.namespace.ensures i, sym c.number.ensures i)) ∙ sym c.is_of_job.ensures ∙ c.if-is_of_job.false) c.loop-key.invariant

pub returns : goal.returns
returns c = any_none (is_of c.args.tables.now c.args.change.now c.args.namespace.now c.args.job.now)
    c.args.keys.now c.loop-key.key-index c.loop-key-test.false c.loop-key.invariant

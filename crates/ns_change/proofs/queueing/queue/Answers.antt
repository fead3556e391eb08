use Rattle.std.proofs.Common.{ap, sym, ◌∙◌}
use Rattle.std.specs.Option.{option_copied}
use Rattle.ns_types.specs.Working.Queue.{is_busy}
use Rattle.ns_types.specs.State.Rows.{evaluation_at}
use Rattle.ns_change.specs.Changed.{view, with_ready}
use Rattle.ns_change.proofs.Listed.{queue_nothing, queue_ready, queue_waits}
use Rattle.ns_change.proofs.queueing.queue.Goals as goal

pub returns-in_default : goal.returns-in_default
returns-in_default c = queue_nothing (view c.args.tables.now c.args.change.now) c.args.key.now
    (ap (evaluation_at (view c.args.tables.now c.args.change.now)) (λ i. (sym c.namespace.ensures i, sym c.number.ensures i)) ∙ sym c.evaluation.ensures ∙
    ap option_copied c.in_default.is)

pub returns-in_ok-add_ready : goal.returns-in_ok-add_ready
returns-in_ok-add_ready c =
    c.in_ok-add_ready.ensures c.args.tables.now
    ∙ ap (λ key. with_ready key (view c.args.tables.now c.args.change.now)) c.in_ok-clone.ensures.cases
    ∙ queue_ready (view c.args.tables.now c.args.change.now) c.args.key.now c.in-Some.row.now
    (ap (evaluation_at (view c.args.tables.now c.args.change.now)) (λ i. (sym c.namespace.ensures i, sym c.number.ensures i)) ∙ sym c.evaluation.ensures ∙
    ap option_copied c.in-Some.is)
    (ap (λ ns. is_busy (view c.args.tables.now c.args.change.now) ns c.in-Some.row.now.job) (sym c.namespace-2.ensures) ∙ sym c.is_busy.ensures ∙
    c.if-not-is_busy.true)

pub returns-else-not-is_busy : goal.returns-else-not-is_busy
returns-else-not-is_busy c = queue_waits (view c.args.tables.now c.args.change.now) c.args.key.now c.in-Some.row.now
    (ap (evaluation_at (view c.args.tables.now c.args.change.now)) (λ i. (sym c.namespace.ensures i, sym c.number.ensures i)) ∙ sym c.evaluation.ensures ∙
    ap option_copied c.in-Some.is)
    (ap (λ ns. is_busy (view c.args.tables.now c.args.change.now) ns c.in-Some.row.now.job) (sym c.namespace-2.ensures) ∙ sym c.is_busy.ensures ∙
    c.if-not-is_busy.false)

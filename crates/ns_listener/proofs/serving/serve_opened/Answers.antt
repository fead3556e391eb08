use Rattle.ns_listener.proofs.Closings.{closing_of, no_read, no_run, run_settled, same_secret, unrotated}
use Rattle.ns_listener.proofs.serving.serve_opened.Goals as goal

pub returns-then-is_settled-clause-closing : goal.returns-then-is_settled-clause-closing
returns-then-is_settled-clause-closing g c =
    closing_of g.W.Write.contents c.args.opened.secret c.args.writer c.run_threads-kept.result.keeper c.settled.result
    c.run_threads-kept.ensures.written c.settled.ensures.kept
    (run_settled g.W.Write.contents c.args.opened.secret c.args.writer c.run_threads-kept.result.keeper c.settled.result
    c.run_threads-kept.ensures.written c.settled.ensures.kept
    c.settled.ensures.run c.settled.ensures.whole)

pub returns-then-is_settled-clause-secret : goal.returns-then-is_settled-clause-secret
returns-then-is_settled-clause-secret g c =
    same_secret g.W.Write.contents c.args.opened.secret c.args.writer c.run_threads-kept.result.keeper c.settled.result
    c.run_threads-kept.ensures.written c.settled.ensures.kept

pub returns-then-is_settled-clause-unrotated : goal.returns-then-is_settled-clause-unrotated
returns-then-is_settled-clause-unrotated g c = λ never.
    unrotated g.W.Write.contents c.args.opened.secret c.args.writer c.run_threads-kept.result.keeper c.settled.result
    c.run_threads-kept.ensures.written c.settled.ensures.kept
    (c.run_threads-kept.ensures.unrotated never)

pub returns-then-is_settled-clause-no_read : goal.returns-then-is_settled-clause-no_read
returns-then-is_settled-clause-no_read g c =
    no_read g.W.Write.contents c.args.opened.secret c.args.writer c.run_threads-kept.result.keeper c.settled.result
    c.run_threads-kept.ensures.written c.settled.ensures.kept

pub returns-else-is_settled-clause-closing : goal.returns-else-is_settled-clause-closing
returns-else-is_settled-clause-closing g c =
    closing_of g.W.Write.contents c.args.opened.secret c.args.writer c.run_threads-left.result.keeper c.unsettled.result
    c.run_threads-left.ensures.written c.unsettled.ensures.kept
    (no_run c.unsettled.result.settled _ _ c.unsettled.ensures.none)

pub returns-else-is_settled-clause-secret : goal.returns-else-is_settled-clause-secret
returns-else-is_settled-clause-secret g c =
    same_secret g.W.Write.contents c.args.opened.secret c.args.writer c.run_threads-left.result.keeper c.unsettled.result
    c.run_threads-left.ensures.written c.unsettled.ensures.kept

pub returns-else-is_settled-clause-unrotated : goal.returns-else-is_settled-clause-unrotated
returns-else-is_settled-clause-unrotated g c = λ never.
    unrotated g.W.Write.contents c.args.opened.secret c.args.writer c.run_threads-left.result.keeper c.unsettled.result
    c.run_threads-left.ensures.written c.unsettled.ensures.kept
    (c.run_threads-left.ensures.unrotated never)

pub returns-else-is_settled-clause-no_read : goal.returns-else-is_settled-clause-no_read
returns-else-is_settled-clause-no_read g c =
    no_read g.W.Write.contents c.args.opened.secret c.args.writer c.run_threads-left.result.keeper c.unsettled.result
    c.run_threads-left.ensures.written c.unsettled.ensures.kept

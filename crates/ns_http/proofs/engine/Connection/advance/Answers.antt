use Rattle.std.proofs.Common.{◌++◌, ◌∷◌, [], false, true, subst, sym, arith}
use Rattle.ns_http.specs.Input.{unread}
use Rattle.ns_http.specs.Waiting.{waiting}
use Rattle.ns_http.specs.Steps.{Queued}
use Rattle.ns_http.proofs.EngineLemmas.{Queued-then, CutsShort-then, queued_none, queued_done, queued_cut, waits_cut}
use Rattle.ns_http.proofs.CountsLemmas.{HasGrown-none, HasGrown-then, IsWriteFault-after}
use Rattle.ns_http.proofs.engine.Connection.advance.Goals as goal
use Rattle.ns_types.proofs.Results.{on_error}

pub loop-self-init : goal.loop-self-init
loop-self-init g c =
    let input = unread c.args.self.now.input in
    let u = g.W.Write.contents c.args.writer.now.inner in
    let n = c.args.self.now.answered in
    let none = queued_none g.H.Answer.answers c.args.handler.now input u [] n in (
      [],
      subst (λ q. Queued g.H.Answer.answers c.args.handler.now c.args.handler.now input input u u [] q n n [] false) (sym c.requires.sent) none,
      omega arith,
      HasGrown-none c.args.writer.now.counts,
      λ was_open. was_open,
    )

pub returns-in_err-step-clause-err : goal.returns-in_err-step-clause-err
returns-in_err-step-clause-err g c =
    let done = c.loop-self.invariant in
    on_error _ (CutsShort-then g.H.Answer.answers c.args.handler.now c.loop-self.handler c.step.new.handler (unread c.args.self.now.input) done.0
    (unread c.loop-self.self.input) _ _ _ [] (waiting c.loop-self.self.output) _ _ done.1 c.in_err-step.ensures.err)

pub loop-self-preserved : goal.loop-self-preserved
loop-self-preserved g c =
    let done = c.loop-self.invariant in
    let ok = rw c.in-Answered.is at c.in_ok-step.ensures.ok in
    let made = Queued-then g.H.Answer.answers c.args.handler.now c.loop-self.handler c.step.new.handler (unread c.args.self.now.input) done.0 (ok.0 ∷ [])
    (unread c.loop-self.self.input) (unread c.step.new.self.input) false _ _ _ [] (waiting c.loop-self.self.output) (waiting c.step.new.self.output)
    _ _ _ done.1 ok.1 in (
      done.0 ++ ok.0 ∷ [],
      made,
      omega (arith, done.2, ok.1.count, ok.2),
      HasGrown-then _ _ _ done.3 c.step.ensures.grows,
      λ was_open. c.in_ok-step.ensures.open
          (done.4 was_open),
    )

pub returns-in_err-flush-in-Closed-clause-err : goal.returns-in_err-flush-in-Closed-clause-err
returns-in_err-flush-in-Closed-clause-err g c =
    let done = c.loop-self.invariant in
    let ok = rw c.in-Closed.is at c.in_ok-step.ensures.ok in
    let made = Queued-then g.H.Answer.answers c.args.handler.now c.loop-self.handler c.step.new.handler (unread c.args.self.now.input) done.0 (ok.0 ∷ [])
    (unread c.loop-self.self.input) ok.1 true _ _ _ [] (waiting c.loop-self.self.output) (waiting c.step.new.self.output) _ _ _ done.1 ok.2 in
    on_error _ (queued_cut g.H.Answer.answers c.args.handler.now c.step.new.handler (unread c.args.self.now.input) ok.1 _ _ _ []
    (waiting c.step.new.self.output) _ _ _ true made c.in_err-flush-in-Closed.ensures.err)

pub returns-in-Closed-clause-ok : goal.returns-in-Closed-clause-ok
returns-in-Closed-clause-ok g c =
    let done = c.loop-self.invariant in
    let ok = rw c.in-Closed.is at c.in_ok-step.ensures.ok in
    let made = Queued-then g.H.Answer.answers c.args.handler.now c.loop-self.handler c.step.new.handler (unread c.args.self.now.input) done.0 (ok.0 ∷ [])
    (unread c.loop-self.self.input) ok.1 true _ _ _ [] (waiting c.loop-self.self.output) (waiting c.step.new.self.output) _ _ _ done.1 ok.2 in (
      done.0 ++ ok.0 ∷ [],
      ok.1,
      queued_done g.H.Answer.answers c.args.handler.now c.step.new.handler (unread c.args.self.now.input) ok.1 _ _ _
          (waiting c.step.new.self.output) _ _ (done.0 ++ ok.0 ∷ []) true made c.in_ok-flush-in-Closed.ensures.ok,
    )

pub returns-in_err-flush-in-Waits-clause-err : goal.returns-in_err-flush-in-Waits-clause-err
returns-in_err-flush-in-Waits-clause-err g c =
    let done = c.loop-self.invariant in
    let ok = rw c.in-Waits.is at c.in_ok-step.ensures.ok in
    on_error _ (waits_cut g.H.Answer.answers c.args.handler.now c.loop-self.handler c.step.new.handler (unread c.args.self.now.input)
    (unread c.loop-self.self.input) _ _ _ _ (waiting c.loop-self.self.output) (waiting c.step.new.self.output)
    _ _ done.0 done.1 ok.0 ok.2 ok.3 c.in_err-flush-in-Waits.ensures.err)

pub returns-in_err-flush-in-Waits-clause-failed : goal.returns-in_err-flush-in-Waits-clause-failed
returns-in_err-flush-in-Waits-clause-failed g c =
    on_error _ (IsWriteFault-after c.args.writer.now.counts c.step.new.writer.counts c.flush-in-Waits.new.writer.counts
    (HasGrown-then _ _ _ c.loop-self.invariant.3 c.step.ensures.grows) c.in_err-flush-in-Waits.ensures.failed)

pub returns-in_err-flush-in-Closed-clause-failed : goal.returns-in_err-flush-in-Closed-clause-failed
returns-in_err-flush-in-Closed-clause-failed g c =
    on_error _ (IsWriteFault-after c.args.writer.now.counts c.step.new.writer.counts c.flush.new.writer.counts
    (HasGrown-then _ _ _ c.loop-self.invariant.3 c.step.ensures.grows) c.in_err-flush-in-Closed.ensures.failed)

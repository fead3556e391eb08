use Rattle.std.proofs.Common.{◌++◌, drop, true, subst, arith}
use Rattle.std.proofs.lemmas.List.{length-drop}
use Rattle.ns_types.specs.Wire.Responses.{rendered_of, refusal_of, wire}
use Rattle.ns_types.specs.Wire.Http.{Whole, Refused}
use Rattle.ns_http.specs.Waiting.{waiting}
use Rattle.ns_http.specs.Output.{WritesSome, Queues}
use Rattle.ns_http.specs.Input.{unread}
use Rattle.ns_http.proofs.EngineLemmas.{queued_whole, cut_whole, queued_refused, cut_refused, length-whole}
use Rattle.ns_http.proofs.engine.Connection.step.Goals as goal
use Rattle.ns_types.proofs.Results.{on_error}

pub returns-in_err-send-in-Refused-clause-err : goal.returns-in_err-send-in-Refused-clause-err
returns-in_err-send-in-Refused-clause-err g c =
    let found = rw c.unread.ensures.value at c.in-Refused.ensures in
    let err = subst (λ r. WritesSome (g.W.Write.contents c.args.writer.now.inner) (g.W.Write.contents c.send.new.writer.inner)
    ((waiting c.args.self.now.output) ++ wire r true)) c.fault.ensures c.in_err-send-in-Refused.ensures.err in
    on_error _ (cut_refused g.H.Answer.answers c.args.handler.now (unread c.args.self.now.input) c.in-Refused.fault _ _ (waiting c.args.self.now.output)
    found err)

pub returns-in_err-send-in-Whole-clause-err : goal.returns-in_err-send-in-Whole-clause-err
returns-in_err-send-in-Whole-clause-err g c =
    let found = rw c.unread.ensures.value at c.in-Whole.ensures in
    let err = subst (λ r. WritesSome (g.W.Write.contents c.args.writer.now.inner) (g.W.Write.contents c.send-in-Whole.new.writer.inner)
    ((waiting c.args.self.now.output) ++ wire r c.in-Whole.close)) c.of.ensures c.in_err-send-in-Whole.ensures.err in
    on_error _ (cut_whole g.H.Answer.answers c.args.handler.now c.answer-response.new.self (unread c.args.self.now.input)
    c.in-Whole.request c.in-Whole.len c.in-Whole.close found (rendered_of c.answer-response.result) _ _ (waiting c.args.self.now.output)
    c.answer-response.ensures err)

pub returns-in_ok-send-in-Refused-clause-ok : goal.returns-in_ok-send-in-Refused-clause-ok
returns-in_ok-send-in-Refused-clause-ok g c =
    let found = rw c.unread.ensures.value at c.in-Refused.ensures in
    let ok = subst (λ r. Queues (g.W.Write.contents c.args.writer.now.inner) (g.W.Write.contents c.send.new.writer.inner) (waiting c.args.self.now.output)
    (waiting c.send.new.self) (wire r true)) c.fault.ensures c.in_ok-send-in-Refused.ensures.ok in (
      (Refused c.in-Refused.fault, refusal_of c.in-Refused.fault),
      unread c.args.self.now.input,
      queued_refused g.H.Answer.answers c.args.handler.now
          (unread c.args.self.now.input) c.in-Refused.fault _ _ (waiting c.args.self.now.output) (waiting c.send.new.self) _ found ok,
    )

pub returns-then-close-clause-ok : goal.returns-then-close-clause-ok
returns-then-close-clause-ok g c =
    let found = rw c.unread.ensures.value at c.in-Whole.ensures in
    let ok = subst (λ r. Queues (g.W.Write.contents c.args.writer.now.inner) (g.W.Write.contents c.send-in-Whole.new.writer.inner)
    (waiting c.args.self.now.output) (waiting c.send-in-Whole.new.self) (wire r c.in-Whole.close)) c.of.ensures c.in_ok-send-in-Whole.ensures.ok in
    let made = queued_whole g.H.Answer.answers c.args.handler.now c.answer-response.new.self (unread c.args.self.now.input)
    c.in-Whole.request c.in-Whole.len c.in-Whole.close found (rendered_of c.answer-response.result) _ _ (waiting c.args.self.now.output)
    (waiting c.send-in-Whole.new.self) c.args.self.now.answered c.answer-response.ensures ok in
    ((Whole found.message, rendered_of c.answer-response.result), drop c.in-Whole.len (unread c.args.self.now.input), rw c.if-close.true at made)

pub returns-else-close-clause-ok : goal.returns-else-close-clause-ok
returns-else-close-clause-ok g c =
    let found = rw c.unread.ensures.value at c.in-Whole.ensures in
    let ok = subst (λ r. Queues (g.W.Write.contents c.args.writer.now.inner) (g.W.Write.contents c.send-in-Whole.new.writer.inner)
    (waiting c.args.self.now.output) (waiting c.send-in-Whole.new.self) (wire r c.in-Whole.close)) c.of.ensures c.in_ok-send-in-Whole.ensures.ok in
    let made = queued_whole g.H.Answer.answers c.args.handler.now c.answer-response.new.self (unread c.args.self.now.input)
    c.in-Whole.request c.in-Whole.len c.in-Whole.close found (rendered_of c.answer-response.result) _ _ (waiting c.args.self.now.output)
    (waiting c.send-in-Whole.new.self) c.args.self.now.answered c.answer-response.ensures ok in
    let size = length-whole (unread c.args.self.now.input) c.in-Whole.request c.in-Whole.len c.in-Whole.close found in (
      (Whole found.message, rendered_of c.answer-response.result),
      rw c.consume.ensures (rw c.if-close.false at made),
      rw c.consume.ensures
          (omega (arith, size.0, size.1, length-drop c.in-Whole.len (unread c.args.self.now.input))),
    )

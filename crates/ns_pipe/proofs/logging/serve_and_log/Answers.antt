use Rattle.std.proofs.Common.{◌≡◌, ℕ, List, Option, Result, Ok, Err, inl, subst, ap}
use Rattle.std.specs.Prelude.{IsErrAnd, OnOk}
use Rattle.ns_types.specs.Steps.{Answer}
use Rattle.ns_types.specs.Wire.Http.{End}
use Rattle.ns_types.specs.declared.step.Step.{Step}
use Rattle.ns_json.specs.Logs.{log_text}
use Rattle.ns_steps.specs.Chains.{Chain}
use Rattle.ns_work_log.specs.Lacking.{HeldLacks}
use Rattle.ns_work_log.specs.Logs.{AreNoted, History, IsNoted}
use Rattle.ns_http.specs.Conversation.{Conversation, streams_between}
use Rattle.ns_http.specs.Output.{WritesAll}
use Rattle.ns_http.specs.declared.counting.Counted.{Counted}
use Rattle.ns_http.specs.declared.engine.ConnFault.{ConnFault}
use Rattle.ns_api.specs.Answering.{Holding}
use Rattle.ns_api.specs.Cores.{AnswersByHeld, state_of}
use Rattle.ns_api.specs.Following.{FollowsBy}
use Rattle.ns_api.specs.Lacking.{LacksRoom}
use Rattle.ns_api.specs.Serving.{holding}
use Rattle.ns_api.specs.declared.following.Driver.{Driver}
use Rattle.ns_api.proofs.Runs.{served}
use Rattle.ns_faults.specs.Lines.{FailsToWrite}
use Rattle.ns_pipe.specs.Readable.{AreAsRead, IsReadBack}
use Rattle.ns_pipe.specs.Logging.{IsLogged}
use Rattle.ns_pipe.proofs.Steps.{log_read}
use Rattle.ns_pipe.proofs.logging.serve_and_log.Goals as goal

-- what was served stands in the log, since a chain of steps does
logged : {D R W V : Type 0} (draws : D → List ℕ → D → Type 0) (remaining : R → Option (List ℕ)) (contents : W → Option (List ℕ))
    (replied : V → Option (List ℕ)) (old last : Holding History D Driver) (reader reader' : Counted R) (replies replies' : Counted V) (end : End) →
    ((old new : History) (steps : List Step) (answers : List Answer) → Chain state_of IsNoted old steps answers new → AreNoted old steps answers new) →
    Conversation (AnswersByHeld draws) old last (streams_between remaining replied reader reader' replies replies') end →
    IsLogged draws remaining contents replied old last reader reader' replies replies' end
logged draws remaining contents replied old last reader reader' replies replies' end law conversation =
    let by_held = served state_of IsNoted LacksRoom draws (FollowsBy state_of IsNoted HeldLacks) old last
    (streams_between remaining replied reader reader' replies replies') end conversation in
    record { served = by_held; noted = law old.taker last.taker by_held.made.steps by_held.made.answers by_held.made.chain }

on_ok : {T E : Type 0} (r : Result T E) (P Q R : Type 0) → (P → Q → R) → OnOk r P → OnOk r Q → OnOk r R
on_ok (Ok x) P Q R f p q = f p q
on_ok (Err e) P Q R f p q = tt

same_fault : {T : Type 0} (r : Result T ConnFault) (fault other : ConnFault) → IsErrAnd r (λ y. y ≡ fault) → r ≡ Err other → fault ≡ other
same_fault (Ok x) fault other is e = absurd is
same_fault (Err y) fault other is e = cc

-- of the log that the server has
written : {W : Type 0} (contents : W → Option (List ℕ)) (writer writer' : Counted W) (secret : List ℕ) (h t : History) → h ≡ t →
    WritesAll contents writer writer' (log_text secret h.log) → WritesAll contents writer writer' (log_text secret t.log)
written contents writer writer' secret h t same w = subst (λ (x : History). WritesAll contents writer writer' (log_text secret x.log)) same w

-- and is read back, as what the server had at first was
read_back : {D R W V : Type 0} (draws : D → List ℕ → D → Type 0) (remaining : R → Option (List ℕ)) (contents : W → Option (List ℕ))
    (replied : V → Option (List ℕ)) (old last : Holding History D Driver) (reader reader' : Counted R) (replies replies' : Counted V) (end : End)
    (secret : List ℕ) (h : History) → IsLogged draws remaining contents replied old last reader reader' replies replies' end → h ≡ last.taker →
    (AreAsRead h.log → IsReadBack secret h.log) → AreAsRead old.taker.log → IsReadBack secret last.taker.log
read_back draws remaining contents replied old last reader reader' replies replies' end secret h l same back read =
    let all = log_read draws old last (streams_between remaining replied reader reader' replies replies') end l.served l.noted read in
    subst (λ (x : History). AreAsRead x.log → IsReadBack secret x.log) same back all

failed : {W : Type 0} (contents : W → Option (List ℕ)) (writer writer' : Counted W) (secret : List ℕ) (h t : History) → h ≡ t →
    FailsToWrite contents writer writer' (log_text secret h.log) → FailsToWrite contents writer writer' (log_text secret t.log)
failed contents writer writer' secret h t same w = subst (λ (x : History). FailsToWrite contents writer writer' (log_text secret x.log)) same w

pub returns-in-Ok-clause-served : goal.returns-in-Ok-clause-served
returns-in-Ok-clause-served g c =
    let h = c.in-Ok.ensures.ok in
    let l = logged g.D.Draws.draws g.R.Read.remaining g.W.Write.contents g.V.Write.contents (holding c.args.api.now) (holding c.serve.new.api)
    c.args.reader.now c.serve.new.reader c.args.replies.now c.serve.new.writer h.0 c.chain_is_noted.ensures h.1 in
    on_ok c.write_log.result _ _ _ (λ w back. (
      h.0,
      holding c.serve.new.api,
      l,
      h.2,
      written g.W.Write.contents c.args.writer.now c.write_log.new.writer c.args.bootstrap.now _ _ c.taker.ensures w,
      read_back g.D.Draws.draws g.R.Read.remaining g.W.Write.contents g.V.Write.contents (holding c.args.api.now) (holding c.serve.new.api)
          c.args.reader.now c.serve.new.reader c.args.replies.now c.serve.new.writer h.0 c.args.bootstrap.now _ l c.taker.ensures back,
    )) c.write_log.ensures.written c.write_log.ensures.read_back

pub returns-in-Ok-clause-write : goal.returns-in-Ok-clause-write
returns-in-Ok-clause-write g c = λ e.
    let h = c.in-Ok.ensures.ok in
    inl (
      h.0,
      holding c.serve.new.api,
      logged g.D.Draws.draws g.R.Read.remaining g.W.Write.contents g.V.Write.contents (holding c.args.api.now) (holding c.serve.new.api)
          c.args.reader.now c.serve.new.reader c.args.replies.now c.serve.new.writer h.0 c.chain_is_noted.ensures h.1,
      failed g.W.Write.contents c.args.writer.now c.write_log.new.writer c.args.bootstrap.now _ _ c.taker.ensures (c.write_log.ensures.failed e),
    )

pub returns-in_ok-write_log-in-Err-Read-clause-read : goal.returns-in_ok-write_log-in-Err-Read-clause-read
returns-in_ok-write_log-in-Err-Read-clause-read g c = λ _.
    let h = c.in-Err-Read.ensures.read (ap Err c.in-Err-Read.field-0-is) in
    let l = logged g.D.Draws.draws g.R.Read.remaining g.W.Write.contents g.V.Write.contents (holding c.args.api.now) (holding c.serve.new.api)
    c.args.reader.now c.serve.new.reader c.args.replies.now c.serve.new.writer h.0 c.chain_is_noted.ensures h.1 in (
      h.0,
      holding c.serve.new.api,
      l,
      h.2,
      written g.W.Write.contents c.args.writer.now c.write_log-in-Err-Read.new.writer c.args.bootstrap.now _ _ c.taker-in-Err-Read.ensures
          c.in_ok-write_log-in-Err-Read.ensures.written,
      read_back g.D.Draws.draws g.R.Read.remaining g.W.Write.contents g.V.Write.contents (holding c.args.api.now) (holding c.serve.new.api)
          c.args.reader.now c.serve.new.reader c.args.replies.now c.serve.new.writer h.0 c.args.bootstrap.now _ l c.taker-in-Err-Read.ensures
          c.in_ok-write_log-in-Err-Read.ensures.read_back,
    )

pub returns-in_err-write_log-in-Err-Read-clause-write : goal.returns-in_err-write_log-in-Err-Read-clause-write
returns-in_err-write_log-in-Err-Read-clause-write g c = λ e.
    let h = c.in-Err-Read.ensures.read (ap Err c.in-Err-Read.field-0-is) in
    inl (
      h.0,
      holding c.serve.new.api,
      logged g.D.Draws.draws g.R.Read.remaining g.W.Write.contents g.V.Write.contents (holding c.args.api.now) (holding c.serve.new.api)
          c.args.reader.now c.serve.new.reader c.args.replies.now c.serve.new.writer h.0 c.chain_is_noted.ensures h.1,
      failed g.W.Write.contents c.args.writer.now c.write_log-in-Err-Read.new.writer c.args.bootstrap.now _ _ c.taker-in-Err-Read.ensures
          (c.in_err-write_log-in-Err-Read.ensures.failed (ap Err (same_fault c.from_residual.result _ _ c.from_residual.ensures.1 e))),
    )

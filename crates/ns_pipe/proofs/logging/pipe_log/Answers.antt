use Rattle.std.proofs.Common.{◌≡◌, ◌⊎◌, ℕ, List, Option, Err, inl, inr, ap, ◌∙◌, sym, subst}
use Rattle.ns_types.specs.State.Names.{Name}
use Rattle.ns_work_log.specs.Logs.{History}
use Rattle.ns_http.specs.declared.counting.Counted.{Counted}
use Rattle.ns_http.specs.declared.engine.ConnFault.{ConnFault}
use Rattle.ns_api.specs.declared.following.Driver.{Driver}
use Rattle.ns_api.specs.Answering.{Holding}
use Rattle.ns_faults.proofs.Faults.{same_fault}
use Rattle.ns_pipe.specs.Logging.{LogsInPart, LogsNothing, LogsServed, LogsToReadFault}
use Rattle.ns_pipe.proofs.Holdings.{same_parts}
use Rattle.ns_pipe.proofs.logging.pipe_log.Goals as goal

module _ {D R W V : Type 0} (draws : D → List ℕ → D → Type 0) (remaining : R → Option (List ℕ)) (contents : W → Option (List ℕ))
    (replied : V → Option (List ℕ)) (old new : Holding History D Driver) (same : old ≡ new) (reader reader' : Counted R)
    (replies replies' : Counted V) (secret : Name) (writer writer' : Counted W) where
  -- from what was opened
  served : LogsServed draws remaining contents replied old reader reader' replies replies' secret writer writer' →
      LogsServed draws remaining contents replied new reader reader' replies replies' secret writer writer'
  served h = subst (λ x. LogsServed draws remaining contents replied x reader reader' replies replies' secret writer writer') same h

  to_read_fault : LogsToReadFault draws remaining contents replied old reader reader' replies replies' secret writer writer' →
      LogsToReadFault draws remaining contents replied new reader reader' replies replies' secret writer writer'
  to_read_fault h = subst (λ x. LogsToReadFault draws remaining contents replied x reader reader' replies replies' secret writer writer') same h

  in_part : LogsInPart draws remaining contents replied old reader reader' replies replies' secret writer writer' ⊎
      LogsNothing replies replies' writer writer' →
      LogsInPart draws remaining contents replied new reader reader' replies replies' secret writer writer' ⊎
      LogsNothing replies replies' writer writer'
  in_part (inl h) =
      inl (subst (λ x. LogsInPart draws remaining contents replied x reader reader' replies replies' secret writer writer') same h)
  in_part (inr h) = inr h

pub returns-in-Ok-ended-clause-served : goal.returns-in-Ok-ended-clause-served
returns-in-Ok-ended-clause-served g c = λ _.
    served g.D.Draws.draws g.R.Read.remaining g.W.Write.contents g.V.Write.contents _ _
    (same_parts c.in-Ok.ensures.taker c.in-Ok.ensures.drawer c.in-Ok.ensures.follower) c.args.reader.now
    c.serve_and_log-ended.new.reader c.args.replies.now c.serve_and_log-ended.new.replies c.args.bootstrap.now c.args.writer.now
    c.serve_and_log-ended.new.writer
    c.in-Ok-ended.ensures.served

pub returns-in-Err-clause-read_fault : goal.returns-in-Err-clause-read_fault
returns-in-Err-clause-read_fault g c = λ e.
    let is = same_fault c.in-Err.fault ConnFault.Read (sym c.print_fault-in-Err.ensures.status ∙ e) in
    to_read_fault g.D.Draws.draws g.R.Read.remaining g.W.Write.contents g.V.Write.contents _ _
    (same_parts c.in-Ok.ensures.taker c.in-Ok.ensures.drawer c.in-Ok.ensures.follower) c.args.reader.now
    c.serve_and_log-ended.new.reader c.args.replies.now c.serve_and_log-ended.new.replies c.args.bootstrap.now c.args.writer.now
    c.serve_and_log-ended.new.writer
    (c.in-Err.ensures.read (ap Err is))

pub returns-in-Err-clause-write_fault : goal.returns-in-Err-clause-write_fault
returns-in-Err-clause-write_fault g c = λ e.
    let is = same_fault c.in-Err.fault ConnFault.Write (sym c.print_fault-in-Err.ensures.status ∙ e) in
    in_part g.D.Draws.draws g.R.Read.remaining g.W.Write.contents g.V.Write.contents _ _
    (same_parts c.in-Ok.ensures.taker c.in-Ok.ensures.drawer c.in-Ok.ensures.follower) c.args.reader.now
    c.serve_and_log-ended.new.reader c.args.replies.now c.serve_and_log-ended.new.replies c.args.bootstrap.now c.args.writer.now
    c.serve_and_log-ended.new.writer
    (c.in-Err.ensures.write (ap Err is))

pub returns-in-Err-clause-out_of_memory : goal.returns-in-Err-clause-out_of_memory
returns-in-Err-clause-out_of_memory g c = λ e.
    c.in-Err.ensures.memory (ap Err (same_fault c.in-Err.fault ConnFault.Memory (sym c.print_fault-in-Err.ensures.status ∙ e)))

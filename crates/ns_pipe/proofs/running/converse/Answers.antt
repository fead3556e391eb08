use Rattle.std.proofs.Common.{◌≡◌, ℕ, List, Option, subst, sym}
use Rattle.ns_types.specs.State.Names.{Name}
use Rattle.ns_http.specs.declared.counting.Counted.{Counted}
use Rattle.ns_api.specs.declared.following.Driven.{Driven}
use Rattle.ns_pipe.specs.Ending.{Ends, opened, uncounted}
use Rattle.ns_pipe.specs.Logging.{EndsLogged, opened_log}
use Rattle.ns_pipe.specs.Printing.{EndsPrinted, kept_nowhere, nowhere}
use Rattle.ns_pipe.specs.declared.nowhere.Nowhere.{Nowhere}
use Rattle.ns_pipe.specs.declared.printed.Printed.{Printed}
use Rattle.ns_pipe.proofs.running.converse.Goals as goal
use Rattle.ns_pipe.proofs.Uncounted.{uncounted_by}

module _ {D R W : Type 0} (draws : D → List ℕ → D → Type 0) (remaining : R → Option (List ℕ)) (contents : W → Option (List ℕ))
    (printed : Printed) (secret : Name) (x : D) (driven : Driven) (status : ℕ) (reader r reader' : Counted R) (other other' : Counted Nowhere)
    (writer w writer' : Counted W) (same_reader : reader ≡ r) (same_writer : writer ≡ w) where
  replies : printed ≡ Printed.Replies → Ends draws remaining contents (opened secret x driven) status reader reader' writer writer' →
      EndsPrinted draws remaining contents printed secret x driven status r reader' other' w writer'
  replies is h =
      subst (λ p. EndsPrinted draws remaining contents p secret x driven status r reader' other' w writer') (sym is)
      (subst (λ a. Ends draws remaining contents (opened secret x driven) status a reader' w writer') same_reader
      (subst (λ a. Ends draws remaining contents (opened secret x driven) status reader reader' a writer') same_writer h))

  logs : printed ≡ Printed.Log → other ≡ uncounted nowhere →
      EndsLogged draws remaining contents kept_nowhere (opened_log secret x driven) reader reader' other other' secret status writer writer' →
      EndsPrinted draws remaining contents printed secret x driven status r reader' other' w writer'
  logs is same_other h =
      subst (λ p. EndsPrinted draws remaining contents p secret x driven status r reader' other' w writer') (sym is)
      (subst (λ a. EndsLogged draws remaining contents kept_nowhere (opened_log secret x driven) a reader' (uncounted nowhere) other' secret status w
      writer') same_reader
      (subst (λ a. EndsLogged draws remaining contents kept_nowhere (opened_log secret x driven) reader reader' a other' secret status w writer')
      same_other
      (subst (λ a. EndsLogged draws remaining contents kept_nowhere (opened_log secret x driven) reader reader' other other' secret status a writer')
      same_writer h)))

pub returns-in-Replies-clause-ended : goal.returns-in-Replies-clause-ended
returns-in-Replies-clause-ended g c =
    let e = c.pipe-status.ensures in
    replies g.D.Draws.draws g.R.Read.remaining g.W.Write.contents _ _ _ _ _ _ _ _ c.new-unprinted.result _ _ _ _
    (uncounted_by c.new-reader.result c.args.reader c.new-reader.ensures.inner c.new-reader.ensures.counts)
    (uncounted_by c.new-writer.result c.args.writer c.new-writer.ensures.inner c.new-writer.ensures.counts) c.in-Replies.is (record {
      is_end = e.status;
      served = e.served;
      read_fault = e.read_fault;
      write_fault = e.write_fault;
      out_of_memory = e.out_of_memory;
    })

pub returns-in-Log-clause-ended : goal.returns-in-Log-clause-ended
returns-in-Log-clause-ended g c =
    let e = c.pipe_log-status.ensures in
    logs g.D.Draws.draws g.R.Read.remaining g.W.Write.contents _ _ _ _ _ _ _ _ c.new-unprinted.result _ _ _ _
    (uncounted_by c.new-reader.result c.args.reader c.new-reader.ensures.inner c.new-reader.ensures.counts)
    (uncounted_by c.new-writer.result c.args.writer c.new-writer.ensures.inner c.new-writer.ensures.counts) c.in-Log.is
    (uncounted_by c.new-unprinted.result nowhere c.new-unprinted.ensures.inner c.new-unprinted.ensures.counts) (record {
      is_end = e.status;
      served = e.served;
      read_fault = e.read_fault;
      write_fault = e.write_fault;
      out_of_memory = e.out_of_memory;
    })

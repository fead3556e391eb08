use Rattle.std.specs.Prelude.{◌≡◌, ◌⊎◌, IsOkAnd, None, Some}
use Rattle.std.proofs.Common.{sym, subst, ◌∙◌}
use Rattle.ns_json.specs.Logs.{segment_text}
use Rattle.ns_work_lock.specs.Settling.{present}
use Rattle.ns_http.specs.Output.{WritesAll}
use Rattle.ns_http.specs.declared.engine.ConnFault.{ConnFault}
use Rattle.ns_faults.specs.Lines.{FailsToWrite, line_of, mismatch_line}
use Rattle.ns_listener.specs.Ending.{IsChosen}
use Rattle.ns_listener.specs.declared.fault.ServeFault.TheVariants.{Conn}
use Rattle.ns_listener.proofs.Ends.{ends_in_part, ends_settled, ends_unsettled, last_alone, last_behind, line_by_status}
use Rattle.ns_listener.proofs.serving.serve.Goals as goal

pub returns-in-Err-clause-fault_line : goal.returns-in-Err-clause-fault_line
returns-in-Err-clause-fault_line g c = λ fault is.
    last_alone _ _ _ _ _ _ _ _ _ c.print_fault.ensures.line (line_by_status (Conn c.in-Err.fault) fault (sym c.print_fault.ensures.status ∙ is))

pub returns-clause-settled : goal.returns-clause-settled
returns-clause-settled g c = λ is.
    let opened = c.in-Ok.opened in
    let end = c.serve_opened-closing.result in
    let closing = c.serve_opened-closing.ensures.closing in
    let chosen : IsChosen g.D.Draws.draws c.args.service.now.bootstrap c.args.draws.items opened.secret =
    (c.pop.new.self.items, c.in-Some.drawer, c.in-Some.ensures.items, c.in-Ok.ensures.secret) in
    let done = c.conclude.ensures.printed is in
    ends_settled g.D.Draws.draws g.W.Write.contents g.E.Write.contents c.args.service.now c.args.draws.items opened.secret closing.segments
    end.fault c.args.writer end.writer c.conclude.result.1 chosen closing.writes closing.grows end.settled opened.address c.args.errors.now
    c.print_text.new.errors c.conclude.new.errors c.as_bytes.result.now closing.settled done.0
    (subst (λ secret. IsOkAnd end.settled (λ s. WritesAll g.W.Write.contents end.writer c.conclude.result.1 (segment_text secret s.given (present s))))
    c.serve_opened-closing.ensures.secret done.1)
    (c.conclude.ensures.settled is) (c.as_bytes.ensures.value ∙ c.as_str.ensures.value ∙ c.in-Ok.ensures.lines) c.print_text.ensures

pub returns-clause-write_fault : goal.returns-clause-write_fault
returns-clause-write_fault g c = λ is.
    let opened = c.in-Ok.opened in
    let end = c.serve_opened-closing.result in
    let closing = c.serve_opened-closing.ensures.closing in
    let chosen : IsChosen g.D.Draws.draws c.args.service.now.bootstrap c.args.draws.items opened.secret =
    (c.pop.new.self.items, c.in-Some.drawer, c.in-Some.ensures.items, c.in-Ok.ensures.secret) in
    ends_in_part g.D.Draws.draws g.W.Write.contents g.E.Write.contents c.args.service.now c.args.draws.items opened.secret closing.segments
    end.fault c.args.writer end.writer c.conclude.result.1 chosen closing.writes closing.grows end.settled closing.settled
    (subst (λ secret. ((end.fault ≡ Some ConnFault.Write) × (c.conclude.result.1 ≡ end.writer)) ⊎ ((end.fault ≡ None)
    × IsOkAnd end.settled (λ s. FailsToWrite g.W.Write.contents end.writer c.conclude.result.1 (segment_text secret s.given (present s)))))
    c.serve_opened-closing.ensures.secret (c.conclude.ensures.write_fault is))

pub returns-clause-unsettled : goal.returns-clause-unsettled
returns-clause-unsettled g c = λ unserved unwritten.
    let opened = c.in-Ok.opened in
    let end = c.serve_opened-closing.result in
    let closing = c.serve_opened-closing.ensures.closing in
    let chosen : IsChosen g.D.Draws.draws c.args.service.now.bootstrap c.args.draws.items opened.secret =
    (c.pop.new.self.items, c.in-Some.drawer, c.in-Some.ensures.items, c.in-Ok.ensures.secret) in
    ends_unsettled g.D.Draws.draws g.W.Write.contents g.E.Write.contents c.args.service.now c.args.draws.items opened.secret closing.segments
    end.fault c.args.writer end.writer c.conclude.result.1 chosen closing.writes closing.grows (c.conclude.ensures.unprinted unserved unwritten)

pub returns-clause-unprinted : goal.returns-clause-unprinted
returns-clause-unprinted g c = λ never unserved unwritten.
    c.conclude.ensures.unprinted unserved unwritten ∙ (c.serve_opened-closing.ensures.unrotated never).1

pub returns-clause-fault_line : goal.returns-clause-fault_line
returns-clause-fault_line g c = λ fault is.
    let opened = c.in-Ok.opened in
    let chosen : IsChosen g.D.Draws.draws c.args.service.now.bootstrap c.args.draws.items opened.secret =
    (c.pop.new.self.items, c.in-Some.drawer, c.in-Some.ensures.items, c.in-Ok.ensures.secret) in
    last_behind g.D.Draws.draws g.W.Write.contents g.E.Write.contents c.args.service.now c.args.draws.items opened.address opened.secret
    c.args.errors.now c.print_text.new.errors c.conclude.new.errors c.as_bytes.result.now (line_of fault) chosen
    (c.as_bytes.ensures.value ∙ c.as_str.ensures.value ∙ c.in-Ok.ensures.lines) c.print_text.ensures (c.conclude.ensures.fault_line fault is)

pub returns-clause-mismatch : goal.returns-clause-mismatch
returns-clause-mismatch g c = λ is.
    let opened = c.in-Ok.opened in
    let chosen : IsChosen g.D.Draws.draws c.args.service.now.bootstrap c.args.draws.items opened.secret =
    (c.pop.new.self.items, c.in-Some.drawer, c.in-Some.ensures.items, c.in-Ok.ensures.secret) in
    last_behind g.D.Draws.draws g.W.Write.contents g.E.Write.contents c.args.service.now c.args.draws.items opened.address opened.secret
    c.args.errors.now c.print_text.new.errors c.conclude.new.errors c.as_bytes.result.now mismatch_line chosen
    (c.as_bytes.ensures.value ∙ c.as_str.ensures.value ∙ c.in-Ok.ensures.lines) c.print_text.ensures (c.conclude.ensures.mismatch is)

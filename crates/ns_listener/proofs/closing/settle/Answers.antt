use Rattle.std.specs.Prelude.{◌≡◌, Err}
use Rattle.std.proofs.Common.{ap, subst, sym, ◌∙◌}
use Rattle.std.proofs.lemmas.Result.{err_from_is_err_and}
use Rattle.ns_types.specs.Steps.{opening}
use Rattle.ns_log.specs.Segments.{Follows, joined}
use Rattle.ns_work_lock.specs.Settling.{IsMismatch}
use Rattle.ns_listener.specs.declared.fault.ServeFault.{ServeFault}
use Rattle.ns_listener.proofs.Closings.{mismatch_of}
use Rattle.ns_listener.proofs.closing.settle.Goals as goal

pub returns-clause-run : goal.returns-clause-run
returns-clause-run g c =
    let is = c.in_ok-settle.ensures.log in record {
      begins = is.base ∙ c.in_ok-first.ensures;
      runs = c.in_ok-settle.ensures.run;
      follow = subst (Follows 0 c.args.segments.items) (sym is.given) c.in_ok-settle.ensures.follow;
      joins = is.joins ∙ ap (joined c.args.segments.items) (sym is.rest);
    }

pub returns-in_err-settle-clause-mismatch : goal.returns-in_err-settle-clause-mismatch
returns-in_err-settle-clause-mismatch g c is =
    let fault = err_from_is_err_and c.from_residual-in_err-settle.result c.from_residual-in_err-settle.ensures.1 in
    let was : fault.0 ≡ ServeFault.Mismatch = cc (is, fault.1) in
    let held = c.args.ended.held in
    mismatch_of (IsMismatch (opening c.args.secret.now) c.args.segments.items held.start held.log c.args.seats.items)
    c.in_err-settle.field-0.0 fault.0 fault.2 was (λ seat place found.
    subst (λ first. IsMismatch first c.args.segments.items held.start held.log c.args.seats.items seat place) c.in_ok-first.ensures
    (c.in_err-settle.ensures.mismatch seat place (ap Err found)))

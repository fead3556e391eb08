use Rattle.std.proofs.Common.{subst, sym}
use Rattle.ns_driver.proofs.Turns.{error_so, end_refused}
use Rattle.ns_driver.proofs.turn.finish.Goals as goal
use Rattle.ns_driver.specs.declared.stopping.Stop.{Stop}
use Rattle.ns_driver.specs.Attempting.{AttemptsFinish}
use Rattle.ns_driver.specs.Driving.{driven}
use Rattle.ns_driver.specs.Kept.{seen_of}
use Rattle.ns_driver.specs.Working.{Ends}

pub returns-in_err-reply-clause-ends : goal.returns-in_err-reply-clause-ends
returns-in_err-reply-clause-ends g c =
    let old = c.args.works.now in
    let new = c.work.new.self in
    let refusal = c.in_err-reply.field-0.0 in
    let end = c.requires.end in
    let ns = c.args.namespace.now in
    let planned = c.args.planned.now in
    error_so c.from_residual.result (Stop.Refused refusal)
    (λ stop. Ends g.W.Server.state g.W.Server.notes g.W.Works.lacks old (seen_of c.args.kept.now) stop new) c.from_residual.ensures
    (subst (λ has. Ends g.W.Server.state g.W.Server.notes g.W.Works.lacks old has (Stop.Refused refusal) new) (sym c.requires.kept)
    (end_refused g.W.Server.state g.W.Server.notes g.W.Works.lacks old ns end.0 planned end.1 new refusal
    (subst (λ r. AttemptsFinish g.W.Server.state g.W.Server.notes g.W.Works.lacks driven ns planned old r new) c.in_err-reply.was
    c.work.ensures) end.2 end.3))

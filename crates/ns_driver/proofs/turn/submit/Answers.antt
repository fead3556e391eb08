use Rattle.std.proofs.Common.{subst, sym, ◌∙◌}
use Rattle.ns_driver.proofs.Turns.{error_so, hand_in_refused}
use Rattle.ns_driver.proofs.turn.submit.Goals as goal
use Rattle.ns_driver.specs.declared.stopping.Stop.{Stop}
use Rattle.ns_driver.specs.Attempting.{AttemptsSubmit}
use Rattle.ns_driver.specs.Driving.{driven}
use Rattle.ns_driver.specs.Kept.{seen_of}
use Rattle.ns_driver.specs.Working.{Ends}

pub returns-in_err-reply-clause-ends : goal.returns-in_err-reply-clause-ends
returns-in_err-reply-clause-ends g c =
    let old = c.args.works.now in
    let new = c.work.new.self in
    let refusal = c.in_err-reply.field-0.0 in
    let due = c.requires.due in
    let ns = c.args.namespace.now in
    let planned = c.args.planned in
    error_so c.from_residual.result (Stop.Refused refusal)
    (λ stop. Ends g.W.Server.state g.W.Server.notes g.W.Works.lacks old (seen_of c.args.kept.now) stop new) c.from_residual.ensures
    (subst (λ has. Ends g.W.Server.state g.W.Server.notes g.W.Works.lacks old has (Stop.Refused refusal) new) (sym c.requires.kept)
    (hand_in_refused g.W.Server.state g.W.Server.notes g.W.Works.lacks old ns due.0 planned due.1 new refusal
    (subst (λ r. AttemptsSubmit g.W.Server.state g.W.Server.notes g.W.Works.lacks driven ns planned old r new) c.in_err-reply.was c.work.ensures) due.2
    (sym c.does_nothing.ensures ∙ c.if-does_nothing.false)))

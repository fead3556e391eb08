use Rattle.std.proofs.Common.{refl, subst}
use Rattle.ns_types.specs.declared.step.Step.{Step}
use Rattle.ns_driver.proofs.Turns.{ends_next, error_so}
use Rattle.ns_driver.proofs.turn.look.Goals as goal
use Rattle.ns_driver.specs.declared.stopping.Stop.{Stop}
use Rattle.ns_driver.specs.Attempting.{Attempts}
use Rattle.ns_driver.specs.Calls.{snapped}
use Rattle.ns_driver.specs.Driving.{IsNext, driven}
use Rattle.ns_driver.specs.Kept.{seen_of}
use Rattle.ns_driver.specs.Working.{Ends}

pub returns-in_err-seen-clause-ends : goal.returns-in_err-seen-clause-ends
returns-in_err-seen-clause-ends g c =
    let old = c.args.works.now in
    let new = c.snap.new.self in
    let refusal = c.in_err-seen.field-0.0 in
    let due = c.requires in
    let ns = c.args.namespace.now in
    error_so c.from_residual.result (Stop.Refused refusal)
    (λ stop. Ends g.W.Server.state g.W.Server.notes g.W.Works.lacks old (seen_of c.args.kept.now) stop new) c.from_residual.ensures
    (ends_next g.W.Server.state g.W.Server.notes g.W.Works.lacks old new (seen_of c.args.kept.now) (Step.Snap driven ns) refusal
    (IsNext.snap ns due.0 due.1 due.2) refl
    (subst (λ r. Attempts g.W.Server.state g.W.Server.notes g.W.Works.lacks old (Step.Snap driven ns) (snapped r) new) c.in_err-seen.was c.snap.ensures.made))

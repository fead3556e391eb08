use Rattle.std.proofs.Common.{refl, subst}
use Rattle.std.specs.Prelude.{Option}
use Rattle.ns_types.specs.declared.snapshot.Snapshot.{Snapshot}
use Rattle.ns_types.specs.declared.step.Step.{Step}
use Rattle.ns_driver.proofs.Turns.{ends_next, error_so}
use Rattle.ns_driver.proofs.turn.apply.Goals as goal
use Rattle.ns_driver.specs.declared.stopping.Stop.{Stop}
use Rattle.ns_driver.specs.Attempting.{Attempts}
use Rattle.ns_driver.specs.Driving.{IsNext, driven}
use Rattle.ns_driver.specs.Working.{Ends}

pub returns-in_err-reply-clause-ends : goal.returns-in_err-reply-clause-ends
returns-in_err-reply-clause-ends g c =
    let old = c.args.works.now in
    let new = c.work.new.self in
    let refusal = c.in_err-reply.field-0.0 in
    let due = c.requires in
    let ns = c.args.namespace.now in
    error_so c.from_residual.result (Stop.Refused refusal)
    (λ stop. (has : Option Snapshot) → Ends g.W.Server.state g.W.Server.notes g.W.Works.lacks old has stop new) c.from_residual.ensures
    (λ has. ends_next g.W.Server.state g.W.Server.notes g.W.Works.lacks old new has (Step.Apply driven ns) refusal (IsNext.apply ns due.0 due.1 due.2) refl
    (subst (λ r. Attempts g.W.Server.state g.W.Server.notes g.W.Works.lacks old (Step.Apply driven ns) r new) c.in_err-reply.was c.work.ensures))

use Rattle.std.proofs.Common.{subst}
use Rattle.std.specs.Prelude.{Option}
use Rattle.ns_types.specs.declared.snapshot.Snapshot.{Snapshot}
use Rattle.ns_types.specs.declared.step.Step.{Step}
use Rattle.ns_driver.proofs.Turns.{error_so, take_refused}
use Rattle.ns_driver.proofs.turn.take.Goals as goal
use Rattle.ns_driver.specs.declared.stopping.Stop.{Stop}
use Rattle.ns_driver.specs.Attempting.{Attempts}
use Rattle.ns_driver.specs.Driving.{driven}
use Rattle.ns_driver.specs.Working.{Ends}

pub returns-in_err-reply-clause-ends : goal.returns-in_err-reply-clause-ends
returns-in_err-reply-clause-ends g c =
    let old = c.args.works.now in
    let new = c.work.new.self in
    let refusal = c.in_err-reply.field-0.0 in
    let ns = c.namespace.result.now in
    let n = c.number.result in
    error_so c.from_residual.result (Stop.Refused refusal)
    (λ stop. (has : Option Snapshot) → Ends g.W.Server.state g.W.Server.notes g.W.Works.lacks old has stop new) c.from_residual.ensures
    (λ has. take_refused g.W.Server.state g.W.Server.notes g.W.Works.lacks old new has c.args.key.now ns n refusal c.namespace.ensures c.number.ensures
    c.requires
    (subst (λ r. Attempts g.W.Server.state g.W.Server.notes g.W.Works.lacks old (Step.Dequeue driven ns n) r new) c.in_err-reply.was c.work.ensures))

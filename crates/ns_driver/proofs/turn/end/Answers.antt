use Rattle.std.proofs.Common.{subst}
use Rattle.std.specs.Prelude.{IfErr}
use Rattle.ns_driver.proofs.Turns.{error_so, unplanned}
use Rattle.ns_driver.proofs.turn.end.Goals as goal
use Rattle.ns_driver.specs.declared.stopping.Stop.{Stop}
use Rattle.ns_driver.specs.Kept.{seen_of}
use Rattle.ns_driver.specs.Working.{Ends, HasNoPlan}

pub returns-in_err-planned-clause-ends : goal.returns-in_err-planned-clause-ends
returns-in_err-planned-clause-ends g c =
    let old = c.args.works.now in
    let refusal = c.in_err-planned.field-0.0 in
    let due = c.requires in
    let has = seen_of c.args.kept.now in
    error_so c.from_residual.result (Stop.Refused refusal)
    (λ stop. Ends g.W.Server.state g.W.Server.notes g.W.Works.lacks old (seen_of c.planned.new.self) stop old) c.from_residual.ensures
    (unplanned g.W.Server.state g.W.Server.notes g.W.Works.lacks old has (seen_of c.planned.new.self) c.args.namespace.now due.0 refusal
    c.planned.ensures.same due.1 due.2
    (subst (λ r. IfErr r (HasNoPlan has)) c.in_err-planned.was c.planned.ensures.none))

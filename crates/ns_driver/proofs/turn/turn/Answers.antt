use Rattle.std.proofs.Common.{inl, refl, subst}
use Rattle.ns_types.specs.declared.refusal.Refusal.{Refusal}
use Rattle.ns_driver.proofs.Turns.{error_so}
use Rattle.ns_driver.proofs.turn.turn.Goals as goal
use Rattle.ns_driver.specs.declared.stopping.Stop.{Stop}
use Rattle.ns_driver.specs.Driving.{Stops}
use Rattle.ns_driver.specs.Kept.{seen_of}
use Rattle.ns_driver.specs.Working.{Ends, IsDue}

pub returns-in_err-next-clause-ends : goal.returns-in_err-next-clause-ends
returns-in_err-next-clause-ends g c =
    let s = c.args.works.now in
    error_so c.from_residual.result (Stop.Refused Refusal.Memory)
    (λ stop. Ends g.W.Server.state g.W.Server.notes g.W.Works.lacks s (seen_of c.args.kept.now) stop s)
    c.from_residual.ensures (inl (Stops.memory c.in_err-next.ensures.memory, refl))

pub returns-in-Nothing-clause-ends : goal.returns-in-Nothing-clause-ends
returns-in-Nothing-clause-ends g c =
    let w = (g.W.Server.state c.args.works.now).world in
    inl (Stops.rests (subst (IsDue w) c.in-Nothing.is c.in_ok-next.ensures.due), refl)

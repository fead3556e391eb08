use Rattle.std.proofs.Common.{Option, subst}
use Rattle.ns_types.specs.declared.plan.Placement.{Placement}
use Rattle.ns_schedule.specs.Chosen.{site, IsNext}
use Rattle.ns_schedule.proofs.Steps.{no_choice}
use Rattle.ns_schedule.proofs.placing.place_or_leave.Goals as goal

pub returns-in-None-clause-refused : goal.returns-in-None-clause-refused
returns-in-None-clause-refused c =
    let old = site c.args.candidates.now.items c.args.used.now in
    let new = site c.place_next.new.candidates.items c.place_next.new.used in
    no_choice c.args.quota.now c.args.demand old new
    (subst (λ (o : Option Placement). IsNext c.args.quota.now c.args.demand old new o) c.in-None.is c.in_ok-placement.ensures.next)

use Rattle.std.proofs.Common.{ap, ◌∙◌, sym, Some}
use Rattle.ns_types.specs.declared.refusal.Refusal.{Refusal}
use Rattle.ns_driver.proofs.Turns.{error_so, no_plan_of}
use Rattle.ns_driver.proofs.kept.Kept.made.Goals as goal
use Rattle.ns_driver.specs.Kept.{seen_of}
use Rattle.ns_driver.specs.Working.{HasNoPlan}

pub returns-in_err-share-in-Seen-clause-none : goal.returns-in_err-share-in-Seen-clause-none
returns-in_err-share-in-Seen-clause-none c =
    error_so c.from_residual.result Refusal.Memory (HasNoPlan (seen_of c.args.self.now)) c.from_residual.ensures HasNoPlan.memory

pub returns-in_err-share-in-Planned-clause-none : goal.returns-in_err-share-in-Planned-clause-none
returns-in_err-share-in-Planned-clause-none c =
    let r = c.from_residual-in_err-share-in-Planned in
    error_so r.result Refusal.Memory (HasNoPlan (seen_of c.args.self.now)) r.ensures HasNoPlan.memory

pub returns-in-Nothing-clause-none : goal.returns-in-Nothing-clause-none
returns-in-Nothing-clause-none c = HasNoPlan.nothing (ap seen_of c.in-Nothing.is)

pub returns-in_ok-share-in-Seen-clause-none : goal.returns-in_ok-share-in-Seen-clause-none
returns-in_ok-share-in-Seen-clause-none c =
    no_plan_of c.plan.result (seen_of c.args.self.now) c.in_ok-share-in-Seen.field-0
    (ap seen_of c.in-Seen.is ∙ ap Some (sym c.in_ok-share-in-Seen.ensures)) c.plan.ensures.err

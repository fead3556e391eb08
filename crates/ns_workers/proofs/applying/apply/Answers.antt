use Rattle.std.proofs.Common.{refl}
use Rattle.ns_types.specs.declared.step.Step.TheVariants as Step
use Rattle.ns_workers.proofs.Growing.{grows_by}
use Rattle.ns_workers.proofs.applying.apply.Goals as goal
use Rattle.ns_workers.specs.Growing.{IsApplyOf}

pub returns-in-GoesOn : goal.returns-in-GoesOn
returns-in-GoesOn g c = grows_by (IsApplyOf c.args.planner.now) (Step.Apply c.args.planner.now.worker c.args.planner.now.namespace) c.args.seat.now
    c.apply-answer.result c.apply-answer.new.seat refl c.apply-answer.ensures

pub returns-in-Pauses : goal.returns-in-Pauses
returns-in-Pauses g c = grows_by (IsApplyOf c.args.planner.now) (Step.Apply c.args.planner.now.worker c.args.planner.now.namespace) c.args.seat.now
    c.apply-answer.result c.apply-answer.new.seat refl c.apply-answer.ensures

pub returns-in-Ends : goal.returns-in-Ends
returns-in-Ends g c = grows_by (IsApplyOf c.args.planner.now) (Step.Apply c.args.planner.now.worker c.args.planner.now.namespace) c.args.seat.now
    c.apply-answer.result c.apply-answer.new.seat refl c.apply-answer.ensures

use Rattle.std.proofs.Common.{refl}
use Rattle.ns_types.specs.declared.step.Step.TheVariants as Step
use Rattle.ns_workers.proofs.Growing.{grows_by}
use Rattle.ns_workers.proofs.turn.Post.finish.Goals as goal
use Rattle.ns_workers.specs.Growing.{IsOfWorker}

pub returns-in_err-ended : goal.returns-in_err-ended
returns-in_err-ended g c = grows_by (IsOfWorker c.args.self.now.number) (Step.Finish c.args.self.now.number _) c.args.seat.now
    c.finish-ended.result c.finish-ended.new.seat refl c.finish-ended.ensures

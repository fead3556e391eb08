use Rattle.std.proofs.Common.{refl}
use Rattle.ns_types.specs.declared.step.Step.TheVariants as Step
use Rattle.ns_workers.proofs.Growing.{grows_by}
use Rattle.ns_workers.proofs.turn.Post.give_back.Goals as goal
use Rattle.ns_workers.specs.Growing.{IsOfWorker}

pub returns : goal.returns
returns g c = grows_by (IsOfWorker c.args.self.now.number) (Step.Nack c.args.self.now.number _) c.args.seat.now c.nack.result
    c.nack.new.seat refl c.nack.ensures

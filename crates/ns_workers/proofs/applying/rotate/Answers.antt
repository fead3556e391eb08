use Rattle.ns_workers.proofs.Keeping.{takes_one}
use Rattle.ns_workers.proofs.applying.rotate.Goals as goal

pub returns-in-Ok-clause-takes : goal.returns-in-Ok-clause-takes
returns-in-Ok-clause-takes g c = takes_one g.K.Keep.takes c.args.keeper.now c.hand_over.new.keeper c.in-Ok.segment c.hand_over.ensures

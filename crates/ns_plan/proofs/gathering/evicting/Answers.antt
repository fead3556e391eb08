use Rattle.ns_plan.proofs.Gathered.{between}
use Rattle.ns_plan.proofs.gathering.evicting.Goals as goal

pub returns : goal.returns
returns c = λ k is. between k c.args.placements.now c.args.part is

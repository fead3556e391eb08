use Rattle.std.proofs.Common.{take}
use Rattle.ns_request.proofs.Targets.{Says}
use Rattle.ns_request.proofs.target.named_in.Given as goal

abbrev pub invariant-loop-placed : goal.invariant-loop-placed
invariant-loop-placed l = Says (take l.placed-index l.placed-items) l.path l.first l.second l.every_pool

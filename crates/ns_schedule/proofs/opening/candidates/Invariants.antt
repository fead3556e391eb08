use Rattle.std.proofs.Common.{◌≡◌, take, map}
use Rattle.ns_types.specs.Placing.Plan.{candidate_of}
use Rattle.ns_schedule.proofs.opening.candidates.Given as goal

abbrev pub invariant-loop-node : goal.invariant-loop-node
invariant-loop-node l = l.candidates.items ≡ map (candidate_of l.job l.namespace l.stops) (take l.node-index l.nodes)

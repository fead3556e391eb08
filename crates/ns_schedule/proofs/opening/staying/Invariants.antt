use Rattle.std.proofs.Common.{◌≡◌, take, map}
use Rattle.ns_types.specs.Placing.Plan.{staying}
use Rattle.ns_schedule.proofs.opening.staying.Given as goal

abbrev pub invariant-loop-a : goal.invariant-loop-a
invariant-loop-a l = map (λ x. x.now) l.left.items
    ≡ staying l.namespace l.stops (map (λ x. x.now) (take l.a-index l.order))

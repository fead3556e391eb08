use Rattle.std.proofs.Common.{◌≡◌, take}
use Rattle.ns_types.specs.Placing.Plan.{staying}
use Rattle.ns_types.specs.State.Resources.{minus, total}
use Rattle.ns_schedule.proofs.opening.left_by_each.Given as goal

abbrev pub invariant-loop-a : goal.invariant-loop-a
invariant-loop-a l = l.left ≡ minus l.fn.capacity (total (λ x. x.size) (staying l.namespace l.stops (take l.a-index l.live)))

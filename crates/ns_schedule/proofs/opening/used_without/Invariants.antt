use Rattle.std.proofs.Common.{◌≡◌, take, map}
use Rattle.ns_types.specs.State.Resources.{minus, total}
use Rattle.ns_schedule.proofs.opening.used_without.Given as goal

abbrev pub invariant-loop-a : goal.invariant-loop-a
invariant-loop-a l = l.left ≡ minus l.fn.used (total (λ x. x.row.size) (map (λ x. x.now) (take l.a-index l.stops)))

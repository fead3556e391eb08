use Rattle.std.proofs.Common.{◌≡◌, ◌-◌, map, nat_lt}
use Rattle.std.specs.List.{filter}
use Rattle.ns_preempt.proofs.order.lower.Given as goal

abbrev pub invariant-loop-allocation : goal.invariant-loop-allocation
invariant-loop-allocation l =
    map (λ a. a.now) l.lower.items ≡ filter (λ a. nat_lt a.priority (l.priority - 9)) (map (λ a. a.now) l.yielded)

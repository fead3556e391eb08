use Rattle.std.proofs.Common.{◌≡◌, ◌++◌, map}
use Rattle.std.specs.List.{range_with_len}
use Rattle.ns_listener.specs.declared.duty.Duty.TheVariants.{Connections, Worker}
use Rattle.ns_listener.proofs.seating.duties.Given as goal

-- the duties of the connections, and of the workers so far
abbrev pub invariant-loop-number : goal.invariant-loop-number
invariant-loop-number g l = l.duties.items ≡ map Connections l.fn.draws.items ++ map Worker (range_with_len 0 l.number)

use Rattle.std.proofs.Common.{◌≡◌, fold, drop, map}
use Rattle.std.specs.FinMap.{empty}
use Rattle.ns_nodes.specs.Losing.{looked, with_losing}
use Rattle.ns_nodes.proofs.losing.losing_numbers.Given as goal
use Rattle.ns_tables.specs.World.{tenant_of}

abbrev pub invariant-loop-slot : goal.invariant-loop-slot
invariant-loop-slot l = fold (with_losing l.pool l.node) l.losing (map (looked (tenant_of l.tenant)) (drop l.slot-index l.slots))
    ≡ fold (with_losing l.pool l.node) empty (map (looked (tenant_of l.tenant)) l.slots)

use Rattle.std.proofs.Common.{◌≡◌, ◌+◌, length}
use Rattle.std.specs.Prelude.{map}
use Rattle.ns_nodes.specs.Losing.{looked}
use Rattle.ns_nodes.proofs.Losses.{count}
use Rattle.ns_nodes.proofs.losing.numbers_pass_at.Given as goal
use Rattle.ns_tables.specs.World.{tenant_of}

abbrev pub invariant-loop-slot : goal.invariant-loop-slot
invariant-loop-slot l = l.number + count l.fn.pool l.fn.node (map (looked (tenant_of l.fn.tenant)) l.rest)
    ≡ l.fn.tenant.evaluation_number + count l.fn.pool l.fn.node (map (looked (tenant_of l.fn.tenant)) l.fn.slots)

abbrev pub decreases-loop-slot : goal.decreases-loop-slot
decreases-loop-slot l = length l.rest

-- Which evictions of a plan have a victim.
use Rattle.std.specs.Prelude.{ℕ, Bool, ◌&&◌, List, length, nat_lt}
use Rattle.ns_types.specs.declared.plan.Eviction.{Eviction}
use Rattle.ns_types.specs.declared.plan.Placement.{Placement}
use Rattle.ns_types.specs.declared.snapshot.Snapshot.{Snapshot}
use Rattle.ns_types.specs.State.Names.{has_number}
use Rattle.ns_types.specs.State.Rows.{World}
use Rattle.ns_types.specs.Working.Commit.{counts, node_name}

-- the eviction's placement is on a committed node of the snapshot, and the eviction counts there
abbrev pub is_victim : World → Snapshot → List ℕ → Placement → Eviction → Bool
is_victim stopped kept committed p e = nat_lt p.node (length kept.nodes) && has_number committed p.node
    && counts stopped kept.pool (node_name kept p.node) e

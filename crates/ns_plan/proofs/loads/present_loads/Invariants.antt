use Rattle.std.proofs.Common.{◌≡◌, ◌<◌, ℕ, get_or, length}
use Rattle.ns_types.specs.declared.resources.Resources.{Resources}
use Rattle.ns_types.specs.State.Sums.{node_load}
use Rattle.ns_types.specs.Working.Commit.{node_name}
use Rattle.ns_plan.proofs.loads.present_loads.Given as goal

abbrev pub invariant-loop-node : goal.invariant-loop-node
invariant-loop-node g l = (length l.loads ≡ 1000) × ((k : ℕ) → k < l.node → (d : Resources) →
    get_or l.loads k d ≡ node_load (g.V.View.world l.view) l.snapshot.pool (node_name l.snapshot k))

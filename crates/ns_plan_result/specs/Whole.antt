-- All that is written of a plan that stands. Here t is the snapshot's namespace in the state before the step.
use Rattle.std.specs.Prelude.{◌≡◌, ℕ, List}
use Rattle.ns_types.specs.declared.plan.Eviction.{Eviction}
use Rattle.ns_types.specs.declared.plan.Plan.{Plan}
use Rattle.ns_types.specs.declared.snapshot.Snapshot.{Snapshot}
use Rattle.ns_types.specs.State.Rows.{Tenant, World}
use Rattle.ns_types.specs.Working.Commit.{done, evict_all, evicted_rows, victims_of}
use Rattle.ns_renewal.specs.Losing.{CanMakeUp}
use Rattle.ns_plan_result.specs.Placing.{CanPlace}
use Rattle.ns_types.specs.Working.Parts.{placed_on, stopped}

-- these are the nodes that do their part, and numbers and places are left for all new rows
pub record CanWrite (kept : Snapshot) (p : Plan) (w : World) (t : Tenant) (nodes : List ℕ) : Type 0 where
  pub committed : nodes ≡ (done kept p w t).checked.committed
  pub place : CanPlace kept (placed_on nodes p.placing.placements) w
  pub make_up : CanMakeUp (evicted_rows (stopped kept p w t) kept (placed_on nodes p.placing.placements)) w

-- x is the world without the stops and the victims of these nodes
pub record IsCleared (kept : Snapshot) (p : Plan) (w : World) (t : Tenant) (nodes : List ℕ) (victims : List Eviction) (x : World) : Type 0 where
  pub victims_are : victims ≡ victims_of (stopped kept p w t) kept (placed_on nodes p.placing.placements)
  pub world_is : x ≡ evict_all (stopped kept p w t) victims

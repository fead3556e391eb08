-- The answer of an Apply, and the row of its worker afterwards.
use Rattle.std.specs.Prelude.{◌≡◌, ℕ, Option, Some}
use Rattle.std.specs.FinMap.{insert}
use Rattle.keyed.specs.Table.{with_slot}
use Rattle.ns_types.specs.declared.evaluation.Evaluation.{Evaluation}
use Rattle.ns_types.specs.Settling.Making.{change_tenant}
use Rattle.ns_types.specs.State.Names.{ByName, Name}
use Rattle.ns_types.specs.State.Rows.{World}
use Rattle.ns_types.specs.Working.Commit.{Applied, applied_worker}
use Rattle.ns_types.specs.Working.Work.{with_worker, without_key}
use Rattle.ns_types.specs.Working.Worker.{Worker}
use Rattle.ns_plan_result.specs.declared.answering.Effect.{Effect}

-- the table of names with this name added
abbrev pub with_name : ByName (Option Unit) → Name → ByName (Option Unit)
with_name table name = insert (with_slot table name) name (Some tt)

-- the worker's row says that its plan was applied so, and the plan has left the list of plans
abbrev pub marked : ℕ → Name → Worker → Evaluation → Applied → World → World
marked number ns worker e a w = record (change_tenant ns (with_worker number (applied_worker a worker e)) w)
    { plans = without_key (ns, worker.evaluation) w.plans }

-- whether something was done, and whether something was not
pub record IsEffect (a : Applied) (effect : Effect) : Type 0 where
  pub committed : a.has_committed ≡ effect.has_committed
  pub dropped : a.has_dropped ≡ effect.has_dropped

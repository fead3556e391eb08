-- The reply, the change and the kept snapshot of a worker that takes a snapshot.
use Rattle.std.specs.Prelude.{◌≡◌, ℕ, Option, Some, Result, Ok, Err}
use Rattle.std.specs.Option.{option_and_then}
use Rattle.std.specs.FinMap.{get}
use Rattle.ns_types.specs.declared.refusal.Refusal.{Refusal}
use Rattle.ns_types.specs.declared.snapshot.Snapshot.{Snapshot}
use Rattle.ns_types.specs.Working.Worker.{Worker}
use Rattle.ns_types.specs.Settling.Making.{change_tenant}
use Rattle.ns_types.specs.State.Names.{Name}
use Rattle.ns_types.specs.State.Rows.{World, Tenant}
use Rattle.ns_types.specs.Working.Looks.{worker_at}
use Rattle.ns_types.specs.Working.Work.{snap, with_worker}
use Rattle.ns_change.specs.declared.change.Change.{Change}
use Rattle.ns_change.specs.Changed.{view}
use Rattle.ns_change.specs.Prepared.{Prepares}
use Rattle.ns_broker.specs.Seen.{UseOfFits}
use Rattle.ns_tables.specs.declared.tables.Tables.{Tables}
use Rattle.ns_tables.specs.World.{world_of}
use Rattle.ns_broker.specs.declared.snapping.Snapped.{Snapped}

-- what is used of the namespace's quota fits 64 bits
abbrev pub UseFitsIn : World → Name → Type 0
UseFitsIn w ns = (t : Tenant) → get w.tenants ns ≡ Some t → UseOfFits w t

-- the snapshot that the worker's row in the namespace keeps
abbrev pub kept_at : World → ℕ → Name → Option Snapshot
kept_at w number ns = option_and_then (λ worker. worker.kept) (worker_at w number ns)

-- the change gives the worker that row, and changes nothing else
abbrev pub Keeps : ℕ → Name → Worker → Tables → Change → Type 0
Keeps number ns worker t change = view t change ≡ change_tenant ns (with_worker number worker) (world_of t)

-- the step is the model's, and the worker's row then keeps the snapshot that the reply returns
abbrev pub Snaps : ℕ → Name → Tables → Result Snapped Refusal → Type 0
Snaps number ns t (Ok x) = Prepares (snap number ns (world_of t)) t (Ok x.prepared) ×
    (kept_at (view t x.prepared.change) number ns ≡ Some x.snapshot)
Snaps number ns t (Err refusal) = Prepares (snap number ns (world_of t)) t (Err refusal)

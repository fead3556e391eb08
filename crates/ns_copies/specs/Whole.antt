-- Rows that can be copied by repeating the steps that made them.
use Rattle.std.specs.Prelude.{◌≡◌, ℕ, ◌≤◌, Some, is_some, length}
use Rattle.std.specs.FinMap.{get}
use Rattle.ns_types.specs.declared.snapshot.Snapshot.{Snapshot}
use Rattle.ns_types.specs.declared.worker.Phase.{Phase}
use Rattle.ns_types.specs.State.Rows.{Tenant}
use Rattle.ns_types.specs.Validity.{keeps}
use Rattle.ns_types.specs.Working.Worker.{Worker}

-- the worker keeps a snapshot in the phases that keep one, and in no other
abbrev pub IsWholeWorker : Worker → Type 0
IsWholeWorker worker = is_some worker.kept ≡ keeps worker.phase

-- the worker in that phase, with that snapshot
abbrev pub as_planned : Phase → Snapshot → Worker → Worker
as_planned phase kept worker = record worker { phase = phase; kept = Some kept }

pub record IsWholeTenant (t : Tenant) : Type 0 where
  pub few_events : length t.events ≤ 100
  pub worker : (n : ℕ) (worker : Worker) → get t.workers n ≡ Some worker → IsWholeWorker worker

-- When an evaluation is the next one of a list, and when a worker may dequeue it.
use Rattle.std.specs.Prelude.{ℕ, Bool, ◌&&◌, if◌then◌else◌, List, Option, Some, None, nat_le, nat_lt, is_some}
use Rattle.keyed.specs.Table.{at_slot, row_at}
use Rattle.ns_types.specs.declared.evaluation.Evaluation.{Evaluation}
use Rattle.ns_types.specs.Settling.Making.{change_tenant}
use Rattle.ns_types.specs.State.Names.{Key, Name}
use Rattle.ns_types.specs.State.Rows.{World}
use Rattle.ns_types.specs.Working.Queue.{is_served}
use Rattle.ns_types.specs.Working.Work.{is_idle, new_worker, with_worker, workers_end}
use Rattle.ns_change.specs.Changed.{without_ready}
use Rattle.ns_tables.specs.declared.tables.TenantRows.{TenantRows}

-- the key, if its evaluation is the next one of the list
abbrev pub served_as : World → List Key → Key → Option Key
served_as w keys key = if is_served w keys key then Some key else None

-- the later of two keys only if its priority is greater, and otherwise the first
abbrev pub preferred : (Key → ℕ) → Option Key → Key → Option Key
preferred priority None later = Some later
preferred priority (Some first) later =
    if nat_le (priority later) (priority first) then Some first else Some later

-- the better of a key and the key of a list's slot; a vacant slot has none
abbrev pub preferred_at : (Key → ℕ) → Option Key → ℕ × Option Key → Option Key
preferred_at priority first (place, None) = first
preferred_at priority first (place, Some later) = preferred priority first later

-- the worker has an evaluation of the slot's namespace
abbrev pub is_busy_for : ℕ → Name × Option TenantRows → Bool
is_busy_for number = at_slot (λ e. is_some (row_at e.1.workers number))

-- there is such a worker, it is idle, and the evaluation is the next one to dequeue
abbrev pub may_dequeue : ℕ → Key → World → Bool
may_dequeue number key w = nat_lt number workers_end && is_idle w number && is_served w w.ready key

-- the evaluation's key, if the worker may dequeue it
abbrev pub key_for : ℕ → Key → World → Option Key
key_for number key w = if may_dequeue number key w then Some key else None

-- the worker has the evaluation, which is no longer ready
abbrev pub take : ℕ → Key → Evaluation → World → World
take number key e w = without_ready key (change_tenant key.0 (with_worker number (new_worker key.1 e)) w)

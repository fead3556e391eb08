-- The queues: which entry is the next, and which evaluations wait for another of their job.
-- Nomad's page "Scheduling in Nomad", of the evaluation broker.
use Rattle.std.specs.Prelude.{ℕ, Bool, false, ◌&&◌, ◌||◌, if◌then◌else◌, List, [], ◌∷◌, ◌++◌, Option, Some, None}
use Rattle.std.specs.Prelude.{nat_le, option_map, find}
use Rattle.std.specs.Option.{option_map_or}
use Rattle.std.specs.FinMap.{get, entries}
use Rattle.std.specs.List.{list_any, list_all}
use Rattle.ns_types.specs.State.Names.{Name, Key, same_name, same_key}
use Rattle.ns_types.specs.State.Tables.{any_row}
use Rattle.ns_types.specs.State.Rows.{World, Tenant, evaluation_at, is_pending}

-- whether the evaluation at a key is of that job
abbrev pub is_of_job : World → Name → Name → Key → Bool
is_of_job w ns job key = same_name ns key.0 && option_map_or (λ e. same_name job e.job) (evaluation_at w key) false

-- an evaluation of the job is ready, or a worker has one, whether its plan is submitted or not
abbrev pub is_busy : World → Name → Name → Bool
is_busy w ns job = list_any (is_of_job w ns job) w.ready
    || option_map_or (λ t. any_row (λ _ worker. is_of_job w ns job (ns, worker.evaluation)) t.workers)
    (get w.tenants ns) false

-- a pending evaluation becomes ready, unless another of its job is ready or with a worker: then it waits
unfoldable pub queue : World → Key → World
queue w key = option_map_or (λ e. if is_busy w key.0 e.job then w else record w { ready = w.ready ++ key ∷ [] })
    (evaluation_at w key) w

-- the job's pending evaluation with the least number; if none of the job is ready or with a worker, all its pending ones wait
abbrev pub first_waiting : Name → Tenant → Option ℕ
first_waiting job t = option_map (λ e. e.0)
    (find (λ e. same_name job e.1.job && is_pending e.1.status) (entries t.evaluations))

-- if no evaluation of the job is ready or with a worker any more, the first one that waits becomes ready
unfoldable pub promote : Name → Name → World → World
promote ns job w =
    if is_busy w ns job then w
    else option_map_or (λ t. option_map_or (λ n. record w { ready = w.ready ++ (ns, n) ∷ [] }) (first_waiting job t) w)
    (get w.tenants ns) w

-- ---- the next entry of a queue

abbrev pub priority_at : World → Key → ℕ
priority_at w key = option_map_or (λ e. e.priority) (evaluation_at w key) 0

-- the first of the keys that have the greatest priority
abbrev pub first_of_greatest : (Key → ℕ) → List Key → Option Key
first_of_greatest priority [] = None
first_of_greatest priority (key ∷ keys) =
    if list_all (λ other. nat_le (priority other) (priority key)) keys then Some key
    else first_of_greatest priority keys

-- the next entry of a queue: the evaluation with the greatest priority, and of those the first in the queue
abbrev pub served : World → List Key → Option Key
served w keys = first_of_greatest (priority_at w) keys

-- the key is the next entry of the queue
abbrev pub is_served : World → List Key → Key → Bool
is_served w keys key = option_map_or (same_key key) (served w keys) false

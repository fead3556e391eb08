-- Which evaluations of a job are ready, with a worker or waiting, as a change leaves the world.
use Rattle.std.specs.Prelude.{ℕ, Bool, false, ◌&&◌, not, List, Option, find, option_map}
use Rattle.std.specs.Option.{option_and_then, option_map_or}
use Rattle.std.specs.List.{list_any}
use Rattle.std.specs.Ordering.{nat_cmp}
use Rattle.std.specs.FinMap.{FinMap, contains_key, get}
use Rattle.keyed.specs.Table.{at_slot}
use Rattle.ns_types.specs.declared.evaluation.Status.{Status}
use Rattle.ns_types.specs.Working.Worker.{Worker}
use Rattle.ns_types.specs.State.Names.{Name, Key, has_key}
use Rattle.ns_types.specs.State.Rows.{World}
use Rattle.ns_types.specs.State.Tables.{any_row}
use Rattle.ns_types.specs.Working.Queue.{is_of_job}
use Rattle.ns_tables.specs.declared.tables.Tables.{Tables}
use Rattle.ns_change.specs.declared.change.Change.{Change}
use Rattle.ns_change.specs.Changed.{view}
use Rattle.ns_change.specs.Waiting.{first, of_job, stands}

-- a key of the list passes the test and is not taken out
abbrev pub any_left : (Key → Bool) → List Key → List Key → Bool
any_left passes taken keys = list_any (λ key. not (has_key taken key) && passes key) keys

-- a slot passes the test and its number is not among the changed ones
abbrev pub is_left : {X Y : Type 0} → FinMap nat_cmp X → (ℕ × Y → Bool) → ℕ × Y → Bool
is_left changed passes slot = not (contains_key changed slot.0) && passes slot

-- the number of the first slot that passes
abbrev pub first_slot : {Y : Type 0} → (ℕ × Y → Bool) → List (ℕ × Y) → Option ℕ
first_slot passes slots = option_map (λ e. e.0) (find passes slots)

-- whether the evaluation at a key is of the job
abbrev pub is_of : Tables → Change → Name → Name → Key → Bool
is_of t c ns job key = is_of_job (view t c) ns job key

-- the evaluation of that number stays in the list, and is of the job
abbrev pub is_left_in : Tables → Change → List Key → List Key → Name → Name → ℕ → Bool
is_left_in t c base taken ns job n = has_key base (ns, n) && (not (has_key taken (ns, n)) && is_of t c ns job (ns, n))

-- a worker of the namespace works on an evaluation of the job
abbrev pub works_on : Tables → Change → Name → Name → ℕ × Option Worker → Bool
works_on t c ns job slot = at_slot (λ e. is_of t c ns job (ns, e.1.evaluation)) slot

abbrev pub is_worked_on : World → Name → Name → Bool
is_worked_on w ns job = option_map_or (λ t. any_row (λ _ worker. is_of_job w ns job (ns, worker.evaluation)) t.workers)
    (get w.tenants ns) false

-- the number of the job's first evaluation with the wanted status
abbrev pub first_of_job : World → Name → Name → Status → Option ℕ
first_of_job w ns job wanted = option_and_then (λ t. first (of_job (stands wanted) job) t.evaluations)
    (get w.tenants ns)

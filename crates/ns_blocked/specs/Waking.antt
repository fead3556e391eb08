-- Which entries a release wakes, and what a step releases, by comparing the rows before and after it.
use Rattle.std.specs.Prelude.{◌≡◌, ℕ, Bool, false, not, ◌&&◌, ◌||◌, IsTrue, List, map, filter}
use Rattle.std.specs.Prelude.{Option, is_some, option_map}
use Rattle.std.specs.FinMap.{entries}
use Rattle.std.specs.List.{filter_map, list_any}
use Rattle.std.specs.Option.{option_map_or}
use Rattle.keyed.specs.Queue.{Queue}
use Rattle.keyed.specs.Table.{row_at}
use Rattle.ns_blocked.specs.declared.entry.BlockedEvaluation.{BlockedEvaluation}
use Rattle.ns_blocked.specs.declared.entry.Waits.{Waits}
use Rattle.ns_blocked.specs.declared.entry.Waits.TheVariants.{Pool, Quota}
use Rattle.ns_blocked.specs.declared.groups.Groups.{Groups}
use Rattle.ns_blocked.specs.declared.releases.ReleasedPool.{ReleasedPool}
use Rattle.ns_blocked.specs.declared.releases.Releases.{Releases}
use Rattle.ns_blocked.specs.Blocked.{BlockedList, entries_of, entry_at}
use Rattle.ns_blocked.specs.Groups.{holds_waiting, same_waits}
use Rattle.ns_types.specs.declared.evaluation.Evaluation.{Evaluation}
use Rattle.ns_types.specs.declared.node.Class.{Class}
use Rattle.ns_types.specs.Settling.Releases.{Released, may_use, released_classes, releases_quota}
use Rattle.ns_types.specs.State.Lists.{is_empty}
use Rattle.ns_types.specs.State.Names.{Key, Name, has_key, has_number, same_name}
use Rattle.ns_types.specs.State.Rows.{PoolRows, World, evaluation_at}

-- ---- which entries a release wakes

abbrev pub can_use : BlockedEvaluation → Class → Bool
can_use e class = may_use e.escapes e.infeasible class

abbrev pub can_use_any : List Class → BlockedEvaluation → Bool
can_use_any classes e = list_any (can_use e) classes

-- an entry is there, and can use one of the classes
abbrev pub is_usable : List Class → Option BlockedEvaluation → Bool
is_usable classes entry = option_map_or (can_use_any classes) entry false

-- what the lists have: quotas, and pools with their classes
abbrev pub released_in : Releases → Released
released_in r = record {
  quota = λ quota. list_any (λ name. same_name name quota) r.quotas;
  room = λ pool passes. list_any (λ p. same_name p.pool pool && list_any passes p.classes) r.pools;
}

-- such releases wake what waits for this quota or pool and can use the classes that pass
abbrev pub wakes_waiting : Released → Waits → (Class → Bool) → Bool
wakes_waiting released (Quota quota) passes = released.quota quota
wakes_waiting released (Pool pool) passes = released.room pool passes

-- the releases wake the entry
abbrev pub is_woken : Releases → BlockedEvaluation → Bool
is_woken r e = wakes_waiting (released_in r) e.waits (can_use e)

-- the entry waits for the quota
abbrev pub wakes_of_quota : Name → BlockedEvaluation → Bool
wakes_of_quota quota e = same_waits (Quota quota) e.waits

-- the entry waits for the pool, and can use one of the classes
abbrev pub wakes_of_pool : Name → List Class → BlockedEvaluation → Bool
wakes_of_pool pool classes e = same_waits (Pool pool) e.waits && can_use_any classes e

-- the keys of the entries that pass, in the list's order; and the entries that do not pass
abbrev pub keys_of_passing : (BlockedEvaluation → Bool) → List BlockedEvaluation → List Key
keys_of_passing passes es = map (λ e. e.key) (filter passes es)

abbrev pub without_passing : (BlockedEvaluation → Bool) → List BlockedEvaluation → List BlockedEvaluation
without_passing passes es = filter (λ e. not (passes e)) es

-- the keys of the entries that the releases wake
abbrev pub woken_by : Releases → List BlockedEvaluation → List Key
woken_by r es = keys_of_passing (is_woken r) es

-- ---- what a step releases

abbrev pub released_pool : World → World → Name → PoolRows → ReleasedPool
released_pool w w' name pool = record { pool = name; classes = released_classes w w' name pool }

-- each pool that has released classes, with these classes, and the released quotas
unfoldable pub released : World → World → Releases
released w w' = record {
  pools = filter (λ p. not (is_empty p.classes)) (map (λ e. released_pool w w' e.0 e.1) (entries w'.pools));
  quotas = map (λ e. e.0) (filter (λ e. releases_quota w w' e.0 e.1) (entries w'.quotas));
}

-- ---- the entries of a world

-- the quota that limits the evaluation, or else its pool
abbrev pub waits_of : Evaluation → Waits
waits_of e = option_map_or Quota e.quota (Pool e.pool)

abbrev pub entry_of : Key → Evaluation → BlockedEvaluation
entry_of key e = record { key = key; waits = waits_of e; escapes = e.escapes; infeasible = e.infeasible }

-- the world's blocked evaluations as entries, in the list's order
abbrev pub entries_in : World → List BlockedEvaluation
entries_in w = filter_map (λ key. option_map (entry_of key) (evaluation_at w key)) w.blocked

-- the entries that are there before the step and after its own change
abbrev pub entries_still_in : World → World → List BlockedEvaluation
entries_still_in w w' = filter (λ e. has_key w'.blocked e.key) (entries_in w)

-- ---- places in the list

abbrev pub passes_at : (BlockedEvaluation → Bool) → Option BlockedEvaluation → Bool
passes_at passes e = option_map_or passes e false

-- these are the places of exactly the entries that pass
abbrev pub ArePassing : (BlockedEvaluation → Bool) → BlockedList → List ℕ → Type 0
ArePassing passes b places = (n : ℕ) → has_number places n ≡ passes_at passes (entry_at b n)

-- if these are the places of the entries that pass, these are their keys
abbrev pub AreKeysAt : List ℕ → BlockedList → List Key → Type 0
AreKeysAt places b keys = (passes : BlockedEvaluation → Bool) → ArePassing passes b places →
    keys ≡ keys_of_passing passes (entries_of b)

-- if these are the places of the entries that pass, the list has all entries but those
abbrev pub IsLeftWithout : List ℕ → BlockedList → BlockedList → Type 0
IsLeftWithout places old new = (passes : BlockedEvaluation → Bool) → ArePassing passes old places →
    entries_of new ≡ without_passing passes (entries_of old)

-- each of these places has an entry
abbrev pub ArePresent : List ℕ → BlockedList → Type 0
ArePresent places b = (n : ℕ) → IsTrue (has_number places n) → IsTrue (is_some (entry_at b n))

-- the places that were there before, and those that pass as well
abbrev pub AddsPlaces : (ℕ → Bool) → List ℕ → List ℕ → Type 0
AddsPlaces more old new = (n : ℕ) → has_number new n ≡ (has_number old n || more n)

-- an entry waits for the quota at this place
abbrev pub is_of_quota : Groups → ℕ → Name → Bool
is_of_quota groups n quota = holds_waiting groups (Quota quota, n)

-- an entry that waits for the pool at this place can use one of the classes
abbrev pub is_of_pool : Queue BlockedEvaluation → Groups → ℕ → Name → List Class → Bool
is_of_pool queue groups n pool classes =
    holds_waiting groups (Pool pool, n) && is_usable classes (row_at queue.placed.rows n)

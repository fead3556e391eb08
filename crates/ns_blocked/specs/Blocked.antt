-- The list of blocked evaluations, in the order in which they were blocked, and what each waits for.
use Rattle.std.specs.Prelude.{◌≡◌, ℕ, Bool, true, false, not, ◌&&◌, List, [], ◌∷◌, ◌++◌, map, filter}
use Rattle.std.specs.Prelude.{Option, Some, None}
use Rattle.std.specs.FinMap.{entries}
use Rattle.keyed.specs.Queue.{CanAddRows, Queue}
use Rattle.keyed.specs.Table.{row_at, row_list}
use Rattle.ns_blocked.specs.declared.entry.BlockedEvaluation.{BlockedEvaluation}
use Rattle.ns_blocked.specs.declared.entry.Waits.{Waits}
use Rattle.ns_blocked.specs.declared.groups.Groups.{Groups}
use Rattle.ns_blocked.specs.Groups.{HasGroupRoom, holds_waiting, same_waits}
use Rattle.ns_types.specs.State.Names.{Key, ByNumber, has_key}

-- ---- the entries

-- the queue of the entries, and their places grouped by what the entries wait for
pub record BlockedList : Type 0 where
  pub queue : Queue BlockedEvaluation
  pub groups : Groups

-- the entry at a place
abbrev pub entry_at : BlockedList → ℕ → Option BlockedEvaluation
entry_at b place = row_at b.queue.placed.rows place

-- the entries in their order
abbrev pub entries_of : BlockedList → List BlockedEvaluation
entries_of b = b.queue.items

abbrev pub keys_of : BlockedList → List Key
keys_of b = map (λ e. e.key) (entries_of b)

-- the places of the entries that wait for this quota or pool, in the list's order
abbrev pub places_waiting : Waits → BlockedList → List ℕ
places_waiting waits b =
    map (λ e. e.0) (filter (λ e. same_waits waits e.1.waits) (row_list (entries b.queue.placed.rows)))

-- none of the entries has one of these keys, and no two of them have the same key
abbrev pub are_new : List Key → List BlockedEvaluation → Bool
are_new keys [] = true
are_new keys (e ∷ es) = not (has_key keys e.key) && are_new (keys ++ e.key ∷ []) es

-- ---- room

-- appending the entries takes no memory, and a place is left for each
abbrev pub CanAdd : List BlockedEvaluation → BlockedList → Type 0
CanAdd es b =
    CanAddRows (λ (e : BlockedEvaluation). e.key) es b.queue × HasGroupRoom b.queue.next es b.groups

-- ---- what holds of every list

-- an entry is there, and waits for this quota or pool
abbrev pub waits_at : Waits → Option BlockedEvaluation → Bool
waits_at waits None = false
waits_at waits (Some e) = same_waits waits e.waits

-- each group holds exactly the places of the entries that wait for its quota or pool
pub record IsGrouped (rows : ByNumber (Option BlockedEvaluation)) (groups : Groups) : Type 0 where
  pub held : (waits : Waits) (n : ℕ) → holds_waiting groups (waits, n) ≡ waits_at waits (row_at rows n)

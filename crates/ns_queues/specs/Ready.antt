-- The ready evaluations by priority.
use Rattle.std.specs.Prelude.{◌≡◌, ℕ, Bool, true, false, not, ◌&&◌, if◌then◌else◌, List, [], ◌∷◌, filter, fold, nat_eq, Option, Some, None}
use Rattle.std.specs.List.{list_all, slice_get}
use Rattle.std.specs.Option.{option_map_or, option_or}
use Rattle.keyed.specs.Queue.{CanAdd, KeyQueue}
use Rattle.keyed.specs.Table.{row_at}
use Rattle.ns_change.specs.Changed.{without_keys}
use Rattle.ns_types.specs.declared.evaluation.Evaluation.{Evaluation}
use Rattle.ns_types.specs.State.Names.{ByNumber, Key, has_key, same_number}
use Rattle.ns_types.specs.State.Rows.{World}
use Rattle.ns_types.specs.Working.Queue.{priority_at}
use Rattle.ns_queues.specs.declared.ready.Arrivals.{Arrivals}
use Rattle.ns_queues.specs.declared.ready.ByPriority.{ByPriority}

-- ---- queues and groups of keys, by priority

abbrev pub Levels : Type 0
Levels = ByNumber (Option KeyQueue)

abbrev pub Groups : Type 0
Groups = ByNumber (Option (List Key))

abbrev pub items_of : Option KeyQueue → List Key
items_of queue = option_map_or (λ q. q.items) queue []

abbrev pub level_at : Levels → ℕ → List Key
level_at levels priority = items_of (row_at levels priority)

abbrev pub group_at : Groups → ℕ → List Key
group_at groups priority = option_map_or (λ keys. keys) (row_at groups priority) []

-- the queue is there, and adding the keys to it takes no memory
abbrev pub CanAddTo : Option KeyQueue → List Key → Type 0
CanAddTo None keys = ⊥
CanAddTo (Some queue) keys = CanAdd keys queue

-- adding each group to its level takes no memory
abbrev pub HasRoomFor : Groups → Levels → Type 0
HasRoomFor groups levels = (priority : ℕ) (keys : List Key) → row_at groups priority ≡ Some keys →
    CanAddTo (row_at levels priority) keys

-- ---- what changes

abbrev pub SameKeys : Levels → Levels → Type 0
SameKeys old new = (priority : ℕ) → level_at new priority ≡ level_at old priority

-- the other levels stay as they are
abbrev pub KeepsOthers : ℕ → Levels → Levels → Type 0
KeepsOthers changed old new = (priority : ℕ) → same_number priority changed ≡ false →
    row_at new priority ≡ row_at old priority

-- what is left of a level if the keys are taken out where it has the one key
abbrev pub left_of : Key → List Key → List Key → List Key
left_of key keys level =
    if has_key level key then without_keys keys level else level

-- no level loses room
abbrev pub KeepsRoom : Levels → Levels → Type 0
KeepsRoom old new = (priority : ℕ) (keys : List Key) → CanAddTo (row_at old priority) keys →
    CanAddTo (row_at new priority) keys

-- ---- the next key

abbrev pub first_key : Option KeyQueue → Option Key
first_key queue = slice_get (items_of queue) 0

abbrev pub preferred : Option Key → ℕ × Option KeyQueue → Option Key
preferred found slot = option_or (first_key slot.1) found

-- the first key of the highest level that has one, where the levels rise
abbrev pub first_of_highest : List (ℕ × Option KeyQueue) → Option Key
first_of_highest slots = fold preferred None slots

-- ---- of a world

abbrev pub priority_of : Option Evaluation → ℕ
priority_of row = option_map_or (λ e. e.priority) row 0

abbrev pub of_priority : World → ℕ → List Key → List Key
of_priority w priority keys = filter (λ key. nat_eq (priority_at w key) priority) keys

-- every key of the list has the priority
abbrev pub HoldsOnly : World → ℕ → List Key → Type 0
HoldsOnly w priority keys = (key : Key) → has_key keys key ≡ true → priority_at w key ≡ priority

-- the key alone if it has the priority asked for, and nothing otherwise
abbrev pub keys_of : ℕ → ℕ → Key → List Key
keys_of asked own key = if nat_eq own asked then key ∷ [] else []

abbrev pub keys_at : ByPriority → ℕ → List Key
keys_at b priority = level_at b.levels priority

-- each level has the ready evaluations of its priority, in the order of the ready list
abbrev pub IsByPriority : World → ByPriority → Type 0
IsByPriority w b = (priority : ℕ) → keys_at b priority ≡ of_priority w priority w.ready

-- ---- over a step

-- each group has the added keys of its priority, in their order
abbrev pub AreArrivals : World → List Key → Arrivals → Type 0
AreArrivals after added a = (priority : ℕ) → group_at a.by_priority priority ≡ of_priority after priority added

-- putting the arrivals at the end of their levels takes no memory
abbrev pub HasRoom : ByPriority → Arrivals → Type 0
HasRoom b a = HasRoomFor a.by_priority b.levels

-- each evaluation that is ready before the step has the same priority after it
abbrev pub keeps_priorities : World → World → Bool
keeps_priorities before after =
    list_all (λ key. nat_eq (priority_at before key) (priority_at after key)) before.ready

-- the evaluation is ready, and gets another priority
abbrev pub moves_ready : KeyQueue → Key → Option Evaluation → Option Evaluation → Bool
moves_ready ready key before after =
    not (nat_eq (priority_of before) (priority_of after)) && has_key ready.items key

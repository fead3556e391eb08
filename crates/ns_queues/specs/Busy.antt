-- The index of the namespaces for which each worker is busy, and how a step changes it.
use Rattle.std.specs.Prelude.{◌≡◌, ℕ, Bool, false, cond, ◌&&◌, IsTrue, Option, Some, is_some}
use Rattle.std.specs.Option.{option_map_or}
use Rattle.std.specs.FinMap.{get}
use Rattle.keyed.specs.Table.{has_slot, row_at}
use Rattle.ns_change.specs.declared.change.Settled.{Settled}
use Rattle.ns_change.specs.declared.change.SettledTenant.{SettledTenant}
use Rattle.ns_queues.specs.declared.busy.BusyWorkers.{BusyWorkers}
use Rattle.ns_types.specs.State.Names.{ByName, ByNumber, Name, same_name, same_number}
use Rattle.ns_types.specs.State.Rows.{World}
use Rattle.ns_types.specs.Working.Looks.{worker_at}
use Rattle.ns_types.specs.Working.Worker.{Worker}

-- a test of the names at the worker's number, for one name; false if the worker has no names
abbrev pub at_number : (ByName (Option Unit) → Name → Bool) → ByNumber (Option (ByName (Option Unit))) →
    ℕ → Name → Bool
at_number says workers number ns =
    option_map_or (λ names. says names ns) (row_at workers number) false

abbrev pub holds_name : ByName (Option Unit) → Name → Bool
holds_name names ns = is_some (row_at names ns)

-- whether the index has the worker as busy for the namespace
abbrev pub holds : BusyWorkers → ℕ → Name → Bool
holds b number ns = at_number holds_name b.workers number ns

-- the index has a worker as busy exactly where the world has it
abbrev pub IsBusyIndex : World → BusyWorkers → Type 0
IsBusyIndex w b = (number : ℕ) (ns : Name) → holds b number ns ≡ is_some (worker_at w number ns)

abbrev pub HoldsSame : BusyWorkers → BusyWorkers → Type 0
HoldsSame old new = (number : ℕ) (ns : Name) → holds new number ns ≡ holds old number ns

-- ---- room

-- whether adding the namespace for the worker takes no memory
abbrev pub has_room : BusyWorkers → ℕ → Name → Bool
has_room b number ns = at_number has_slot b.workers number ns

-- there is room for each row that is put for the namespace
abbrev pub HasRoomIn : Name → ByNumber (Option Worker) → BusyWorkers → Type 0
HasRoomIn ns rows b = (number : ℕ) → IsTrue (is_some (row_at rows number)) →
    IsTrue (has_room b number ns)

-- there is room for each worker's row that the step puts
abbrev pub HasBusyRoom : Settled → BusyWorkers → Type 0
HasBusyRoom s b = (ns : Name) (x : SettledTenant) → row_at s.tenants ns ≡ Some x →
    HasRoomIn ns x.rows.workers b

-- ---- what a change leaves

-- the index holds the same, and no room is lost
pub record Keeps (old new : BusyWorkers) : Type 0 where
  pub held : HoldsSame old new
  pub room : (number : ℕ) (ns : Name) → IsTrue (has_room old number ns) →
      IsTrue (has_room new number ns)

-- the worker is now busy or idle for the namespace; all else is as it was, and no other room is lost
pub record Puts (number : ℕ) (ns : Name) (busy : Bool) (old new : BusyWorkers) : Type 0 where
  pub held : (n : ℕ) (q : Name) →
      holds new n q ≡ cond (same_number n number && same_name q ns) busy (holds old n q)
  pub room : (n : ℕ) (q : Name) → (same_number n number && same_name q ns) ≡ false →
      IsTrue (has_room old n q) → IsTrue (has_room new n q)

-- whether a worker is busy, given the change of its row, if any, and whether it was busy before
abbrev pub busy_after : Option (Option Worker) → Bool → Bool
busy_after slot was = option_map_or is_some slot was

-- the changed rows of the namespace are followed; other namespaces are as they were and lose no room
pub record PutsAll (ns : Name) (rows : ByNumber (Option Worker)) (old new : BusyWorkers) : Type 0
  where
    pub held : (n : ℕ) (q : Name) → holds new n q
        ≡ cond (same_name q ns) (busy_after (get rows n) (holds old n q)) (holds old n q)
    pub room : (n : ℕ) (q : Name) → same_name q ns ≡ false →
        IsTrue (has_room old n q) → IsTrue (has_room new n q)

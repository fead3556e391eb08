-- The three indexes together, and when they are right.
use Rattle.std.specs.Prelude.{◌≡◌, ℕ, Bool, false, ◌&&◌, List, [], IsTrue}
use Rattle.ns_blocked.specs.Blocked.{CanAdd, entries_of}
use Rattle.ns_change.specs.declared.change.Settled.{Settled}
use Rattle.ns_change.specs.Settled.{settled_world}
use Rattle.ns_queues.specs.declared.turns.Coming.{Coming}
use Rattle.ns_queues.specs.declared.turns.Turns.{Turns}
use Rattle.ns_queues.specs.Busy.{HasBusyRoom, IsBusyIndex, holds}
use Rattle.ns_queues.specs.Ready.{AreArrivals, HasRoom, IsByPriority, keeps_priorities, keys_at}
use Rattle.ns_queues.specs.Waiting.{IsBlockedIndex, added_entries, keeps_list}
use Rattle.ns_types.specs.State.Names.{Key, Name}
use Rattle.ns_types.specs.State.Rows.{World}

-- each index is right for the world
pub record AreRight (w : World) (t : Turns) : Type 0 where
  pub busy : IsBusyIndex w t.busy
  pub ready : IsByPriority w t.ready
  pub blocked : IsBlockedIndex w t.blocked

-- if the indexes are known to be right, they are right
abbrev pub IsRight : World → Turns → Type 0
IsRight w t = IsTrue t.is_known → AreRight w t

-- the indexes are empty
pub record IsNew (t : Turns) : Type 0 where
  pub idle : (number : ℕ) (ns : Name) → holds t.busy number ns ≡ false
  pub none_ready : (priority : ℕ) → keys_at t.ready priority ≡ []
  pub none_blocked : entries_of t.blocked ≡ []

-- what is coming is what the step adds, and there is room for all that the step changes
pub record BringsComing (w : World) (s : Settled) (coming : Coming) (t : Turns) : Type 0 where
  pub busy : HasBusyRoom s t.busy
  pub arrivals : AreArrivals (settled_world w s) s.ready.added coming.ready
  pub ready : HasRoom t.ready coming.ready
  pub entries : coming.blocked ≡ added_entries w s
  pub blocked : CanAdd coming.blocked t.blocked

-- indexes that are known to be right stay so over the step: no ready evaluation changes its priority, and of the blocked list,
-- which has these keys, none that stays changes what it waits for, and each that is added has its row and is new there
abbrev pub stays_known : World → Settled → List Key → Bool
stays_known w s blocked = keeps_priorities w (settled_world w s) && keeps_list w s blocked

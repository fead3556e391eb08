-- The outcome of a step: its own change of the state, before its releases, wakes, indexes and events.
use Rattle.std.specs.Prelude.{◌≡◌, Bool, true, false, if◌then◌else◌, Option, Some, None, Result, Ok, Err}
use Rattle.std.specs.Option.{option_map_or}
use Rattle.std.specs.FinMap.{get}
use Rattle.ns_types.specs.declared.refusal.Refusal.{Refusal}
use Rattle.ns_types.specs.declared.reply.Content.{Content}
use Rattle.ns_types.specs.State.Names.{Name}
use Rattle.ns_types.specs.State.Rows.{World, Tenant, PoolRows}

pub data Outcome (S : Type 0) : Type 0 where
  -- the step is not enabled in this state, so no run has it here
  NotEnabled : Outcome S
  -- the step is refused, and nothing changes
  Refused : Refusal → Outcome S
  -- the step is done: the content of its reply, and the state after its own change
  Done : Content → S → Outcome S

-- the step is refused if the condition holds; if not, the rest decides
unfoldable pub unless : {S : Type 0} → Bool → Refusal → Outcome S → Outcome S
unless refuses refusal rest = if refuses then Refused refusal else rest

-- the step is refused if there is a refusal; if not, the rest decides
abbrev pub refused_by : {S : Type 0} → Option Refusal → Outcome S → Outcome S
refused_by None rest = rest
refused_by (Some refusal) rest = Refused refusal

-- the outcome for the whole, by the outcome for a part of it
abbrev pub lift : {A B : Type 0} → (A → B) → Outcome A → Outcome B
lift whole NotEnabled = NotEnabled
lift whole (Refused refusal) = Refused refusal
lift whole (Done content a) = Done content (whole a)

-- the rest, with what was looked up; the refusal `NotFound` if nothing was found
abbrev pub found : {S A : Type 0} → Option A → (A → Outcome S) → Outcome S
found thing go = option_map_or go thing (Refused Refusal.NotFound)

abbrev pub in_tenant : World → Name → (Tenant → Outcome World) → Outcome World
in_tenant w ns go = found (get w.tenants ns) go

abbrev pub in_pool : World → Name → (PoolRows → Outcome World) → Outcome World
in_pool w pool go = found (get w.pools pool) go

-- the change is made: it is enabled, and not refused
abbrev pub is_done : {S : Type 0} → Outcome S → Bool
is_done NotEnabled = false
is_done (Refused refusal) = false
is_done (Done content s) = true

-- What a call that makes this change of a part returns, and the part that it leaves. A refusal changes nothing. The refusal
-- for want of memory comes last: only where the change would have been made.
abbrev pub Changes : {S : Type 0} → Outcome S → S → Result Content Refusal → S → Type 0
Changes outcome s (Ok content) s' = outcome ≡ Done content s'
Changes outcome s (Err Refusal.Memory) s' = (is_done outcome ≡ true) × (s' ≡ s)
Changes outcome s (Err refusal) s' = (outcome ≡ Refused refusal) × (s' ≡ s)

-- Neither the headline nor the wire rests on `Changes` and `is_done`: this is the contract of calls that change a part.

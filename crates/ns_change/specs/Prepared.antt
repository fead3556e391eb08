-- What a command replies and changes, before its change goes into the tables.
use Rattle.std.specs.Prelude.{◌≡◌, true, if◌then◌else◌, Result, Ok, Err}
use Rattle.ns_types.specs.declared.refusal.Refusal.{Refusal}
use Rattle.ns_types.specs.Settling.Outcome.{Outcome, NotEnabled, Refused, Done, is_done}
use Rattle.ns_types.specs.Settling.Settle.{settle}
use Rattle.ns_types.specs.State.Rows.{World}
use Rattle.ns_types.specs.Steps.{is_past_bound}
use Rattle.ns_change.specs.declared.change.Prepared.{Prepared}
use Rattle.ns_change.specs.Changed.{view}
use Rattle.ns_tables.specs.declared.tables.Tables.{Tables}

-- The tables still have the world before the command. `Memory` comes last: without it the command would have been done.
abbrev pub Prepares : Outcome World → Tables → Result Prepared Refusal → Type 0
Prepares outcome t (Ok x) = outcome ≡ Done x.content (view t x.change)
Prepares outcome t (Err Refusal.Memory) = is_done outcome ≡ true
Prepares outcome t (Err Refusal.NotEnabled) = outcome ≡ NotEnabled
Prepares outcome t (Err refusal) = outcome ≡ Refused refusal

-- the command is refused as `Full` if a counter would pass its bound once the step has settled
abbrev pub bounded : World → Outcome World → Outcome World
bounded w (Done content w') = if is_past_bound (settle w w') then Refused Refusal.Full else Done content w'
bounded w outcome = outcome

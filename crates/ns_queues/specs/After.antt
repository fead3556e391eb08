-- Evaluations as a step leaves them, and which of them move in an index.
use Rattle.std.specs.Prelude.{◌≡◌, ℕ, Bool, false, Option, Some}
use Rattle.std.specs.FinMap.{FinMap, entries}
use Rattle.std.specs.List.{list_any}
use Rattle.keyed.specs.Table.{row_at}
use Rattle.ns_change.specs.declared.change.Settled.{Settled}
use Rattle.ns_change.specs.declared.change.SettledTenant.{SettledTenant}
use Rattle.ns_types.specs.declared.evaluation.Evaluation.{Evaluation}
use Rattle.ns_types.specs.State.Names.{ByNumber, Key, Name, name_cmp}
use Rattle.ns_types.specs.State.Rows.{World, evaluation_at}
use Rattle.ns_tables.specs.declared.tables.Tables.{Tables}
use Rattle.ns_tables.specs.declared.tables.TenantRows.{TenantRows}

-- whether the evaluation at a key moves, given its row before and its row after the step
abbrev pub Moves : Type 0
Moves = Key → Option Evaluation → Option Evaluation → Bool

abbrev pub moves_slot : Moves → Name → ByNumber (Option Evaluation) → ℕ × Option Evaluation → Bool
moves_slot moves ns before slot = moves (ns, slot.0) (row_at before slot.0) slot.1

abbrev pub moves_of : Moves → Name → Option TenantRows → Option SettledTenant → Bool
moves_of moves ns (Some t) (Some x) = list_any (moves_slot moves ns t.evaluations.slots) (entries x.rows.evaluations)
moves_of moves ns _ _ = false

abbrev pub moves_in : Moves → FinMap name_cmp (Option TenantRows) → Name × Option SettledTenant → Bool
moves_in moves tenants slot = moves_of moves slot.0 (row_at tenants slot.0) slot.1

-- whether an evaluation that the step changes moves, in whatever namespace
abbrev pub any_moves : Moves → Tables → Settled → Bool
any_moves moves t s = list_any (moves_in moves t.tenants) (entries s.tenants)

-- an evaluation whose row stays as it is does not move
abbrev pub StillUnmoved : Moves → Type 0
StillUnmoved moves = (key : Key) (row : Option Evaluation) → moves key row row ≡ false

-- no evaluation moves from the one world to the other
abbrev pub NoneMoves : Moves → World → World → Type 0
NoneMoves moves before after = (key : Key) → moves key (evaluation_at before key) (evaluation_at after key) ≡ false

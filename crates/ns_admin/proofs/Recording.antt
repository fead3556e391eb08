-- What a command on a record comes to, for want of memory.
use Rattle.std.specs.Prelude.{◌≡◌, true, Result, Ok, Err}
use Rattle.std.proofs.Common.{sym, subst}
use Rattle.std.specs.Result.{IsErrAnd}
use Rattle.ns_types.specs.declared.refusal.Refusal.{Refusal}
use Rattle.ns_types.specs.Settling.Outcome.{Outcome, is_done}
use Rattle.ns_types.specs.State.Rows.{World}
use Rattle.ns_tables.specs.declared.tables.Tables.{Tables}
use Rattle.ns_tables.specs.World.{world_of}
use Rattle.ns_admin.specs.declared.record.RecordChange.{RecordChange}
use Rattle.ns_admin.specs.Recorded.{PreparesRecord}

-- where the command would have been made
pub out_of_memory : (command : World → Outcome World) (t : Tables) (result : Result RecordChange Refusal)
    → IsErrAnd result (λ refusal. refusal ≡ Refusal.Memory) → is_done (command (world_of t)) ≡ true → PreparesRecord command t result
out_of_memory command t (Ok change) e done = absurd e
out_of_memory command t (Err refusal) e done = subst (λ refusal. PreparesRecord command t (Err refusal)) (sym e) done

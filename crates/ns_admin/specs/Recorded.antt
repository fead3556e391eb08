-- What administrators' commands on namespaces, quotas and pools write.
use Rattle.std.specs.Prelude.{◌≡◌, true, OnOk, Result, Ok, Err}
use Rattle.std.specs.FinMap.{remove}
use Rattle.std.specs.declared.alloc.AllocError.{AllocError}
use Rattle.ns_types.specs.declared.refusal.Refusal.{Refusal}
use Rattle.ns_types.specs.declared.reply.Content.TheVariants as Content
use Rattle.ns_types.specs.Settling.Outcome.{Outcome, Refused, Done, is_done}
use Rattle.ns_types.specs.State.Rows.{World}
use Rattle.ns_tables.specs.declared.tables.Tables.{Tables}
use Rattle.ns_tables.specs.World.{world_of}
use Rattle.ns_admin.specs.declared.record.RecordChange.{RecordChange}
use Rattle.ns_admin.specs.Viewed.{with_namespace_put, with_pool_put, with_quota_put, without_namespace}

-- the record of one owner is written, or the owner is removed with all that it has; nothing else changes
abbrev pub recorded : RecordChange → World → World
recorded (RecordChange.Namespace name namespace) w = with_namespace_put name namespace w
recorded (RecordChange.NoNamespace name) w = without_namespace name w
recorded (RecordChange.Quota name quota) w = with_quota_put name quota w
recorded (RecordChange.NoQuota name) w = record w { quotas = remove w.quotas name }
recorded (RecordChange.Pool name pool) w = with_pool_put name pool w
recorded (RecordChange.NoPool name) w = record w { pools = remove w.pools name }

-- What a command writes, or its refusal. The tables are as they were. Want of memory comes last, where the command would have
-- been made.
abbrev pub PreparesRecord : (World → Outcome World) → Tables → Result RecordChange Refusal → Type 0
PreparesRecord command t (Ok change) = command (world_of t) ≡ Done Content.Written (recorded change (world_of t))
PreparesRecord command t (Err Refusal.Memory) = is_done (command (world_of t)) ≡ true
PreparesRecord command t (Err refusal) = command (world_of t) ≡ Refused refusal

-- the world is changed by `change`, unless memory was refused
abbrev pub Writes : (World → World) → Tables → Result (Unit {0}) AllocError → Tables → Type 0
Writes change old result new = OnOk result (world_of new ≡ change (world_of old))

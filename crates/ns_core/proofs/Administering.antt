-- What administrators' steps want to know of their commands, and what is prepared for a quota that gets other limits.
use Rattle.std.specs.Prelude.{◌≡◌, true, false, Option, Result, Ok, Err}
use Rattle.std.proofs.Common.{refl, subst, sym}
use Rattle.ns_types.specs.declared.records.Quota.{Quota}
use Rattle.ns_types.specs.declared.refusal.Refusal.{Refusal}
use Rattle.ns_types.specs.declared.reply.Content.{Content}
use Rattle.ns_types.specs.declared.step.AdminCommand.{AdminCommand}
use Rattle.ns_types.specs.declared.step.Step.TheVariants as Step
use Rattle.ns_types.specs.Asking.Admins.{put_quota}
use Rattle.ns_types.specs.Asking.Policies.{administer, may_administer, with_world}
use Rattle.ns_types.specs.Settling.Outcome.{Changes, Outcome, lift}
use Rattle.ns_types.specs.State.Names.{Name}
use Rattle.ns_types.specs.State.Rows.{World}
use Rattle.ns_types.specs.Steps.{act}
use Rattle.ns_types.specs.Validity.{IsValid}
use Rattle.ns_admin.specs.declared.record.RecordChange.{RecordChange}
use Rattle.ns_admin.specs.Laws.{relimits}
use Rattle.ns_admin.specs.Recorded.{PreparesRecord}
use Rattle.ns_change.specs.declared.change.Prepared.{Prepared}
use Rattle.ns_change.specs.Prepared.{Prepares, bounded}
use Rattle.ns_change.proofs.Making.{does, refuses}
use Rattle.ns_live_index.specs.Naming.{KeepsNodes}
use Rattle.ns_live_index.proofs.Administered.{administration_right}
use Rattle.ns_queues.specs.Turns as turns
use Rattle.ns_queues.proofs.Administered.{administration_keeps_work}
use Rattle.ns_queues.proofs.Together.{right_still}
use Rattle.ns_steps.proofs.Reading.{changes_lift}
use Rattle.ns_tables.specs.declared.tables.Tables.{Tables}
use Rattle.ns_core.specs.declared.parts.Parts.{Parts}
use Rattle.ns_core.specs.Answering.{ChangesBy, PreparesStep, WritesPrepared}
use Rattle.ns_core.specs.Held.{IsIndexed, KeepsNamed}
use Rattle.ns_core.specs.Viewed.{state_of, world_of}

-- only a put of a quota changes a quota's limits
pub limits_stay : (w : World) (command : AdminCommand) → ((name : Name) (quota : Quota) → command ≡ AdminCommand.PutQuota name quota → ⊥)
    → relimits command w ≡ false
limits_stay w (AdminCommand.PutQuota name quota) other = absurd (other name quota refl)
limits_stay w _ other = refl

-- ---- a command that settles as it is

pub index_stays : (secret : Option Name) (command : AdminCommand) (old new : Parts) (result : Result Content Refusal) → IsValid (state_of old)
    → ChangesBy secret command old result new → KeepsNodes old.live new.live → KeepsNamed old.tables old.live new.tables new.live
    → new.turns ≡ old.turns → IsIndexed old → IsIndexed new
index_stays secret command old new result valid changes nodes named same_turns right = record {
  live = administration_right secret command (state_of old) (state_of new) result old.live new.live changes right.live nodes
      (named right.live.quotas);
  turns = subst (turns.IsRight (world_of new)) (sym same_turns)
      (right_still (world_of old) (world_of new) old.turns
      (administration_keeps_work secret command (state_of old) (state_of new) result valid changes) right.turns);
}

-- ---- a command on a record

pub writes : (parts : Parts) (tables : Tables) (command : World → Outcome World) (prepared : Result RecordChange Refusal) (result : Result Content Refusal)
    → WritesPrepared prepared parts.tables result tables → PreparesRecord command parts.tables prepared
    → Changes (lift (with_world parts.acl) (command (world_of parts))) (state_of parts) result (state_of (record parts { tables = tables }))
writes parts tables command prepared result written so = changes_lift (with_world parts.acl) (command (world_of parts)) (world_of parts)
    (world_of (record parts { tables = tables })) result (written command so)

-- ---- other limits

module _ (parts : Parts) (name : Name) (quota : Quota) (secret : Option Name) where
  abbrev command : AdminCommand
  command = AdminCommand.PutQuota name quota

  acts : act (Step.Admin secret command) (state_of parts) ≡ lift (with_world parts.acl) (put_quota name quota (world_of parts))
  unfolding act administer
  acts = refl

  pub limits_prepare : may_administer parts.acl secret command ≡ true → (result : Result Prepared Refusal)
      → Prepares (bounded (world_of parts) (put_quota name quota (world_of parts))) parts.tables result
      → PreparesStep (Step.Admin secret command) parts result
  limits_prepare allowed (Ok x) h = does (Step.Admin secret command) (state_of parts) (put_quota name quota (world_of parts)) acts allowed parts.tables x h
  limits_prepare allowed (Err refusal) h =
      refuses (Step.Admin secret command) (state_of parts) (put_quota name quota (world_of parts)) acts allowed parts.tables refusal h

-- A step that gives a quota other limits, and does nothing else.
use Rattle.std.specs.Prelude.{◌≡◌, true, false, ◌||◌, if◌then◌else◌, [], ◌∷◌, Option, Some, flat_map}
use Rattle.std.proofs.Common.{sym, ap, ◌∙◌, append-nil}
use Rattle.std.specs.List.{list_any}
use Rattle.std.specs.FinMap.{empty, insert}
use Rattle.keyed.specs.Table.{with_slot}
use Rattle.ns_types.specs.declared.records.Quota.{Quota}
use Rattle.ns_types.specs.Asking.Admins.{is_relimited}
use Rattle.ns_types.specs.Settling.Settle.{settle}
use Rattle.ns_types.specs.State.Names.{Name, ByName}
use Rattle.ns_types.specs.State.Rows.{World}
use Rattle.ns_types.specs.Steps.{is_past_bound}
use Rattle.ns_types.proofs.Named.{names, one_name}
use Rattle.ns_types.proofs.TableRows.{entries_empty}
use Rattle.ns_change.specs.Changed.{view, with_record}
use Rattle.ns_change.proofs.Nothing.{nothing, nothing_changed}
use Rattle.ns_change.proofs.Recorded.{record_put}
use Rattle.ns_tables.specs.declared.tables.Tables.{Tables}
use Rattle.ns_tables.specs.World.{world_of}
use Rattle.ns_release.specs.Released.{quota_relimited, released_quotas, released_rooms, rooms_of_pool}
use Rattle.ns_counters.specs.Bounds.{places_pass, quota_passes}
use Rattle.ns_counters.specs.Given.{given_limits_pass, given_waking_passes}
use Rattle.ns_counters.proofs.Alone.{alone, alone_past, one_entry, quotas_alone, rooms_alone}
use Rattle.ns_types.proofs.Tests.{or_none}

module _ (t : Tables) (name : Name) (quota : Quota) (relimited : is_relimited name quota (world_of t) ≡ true) where
  abbrev w : World
  w = world_of t

  abbrev quotas : ByName (Option Quota)
  quotas = insert (with_slot empty name) name (Some quota)

  alone_is : view t (alone t empty quotas) ≡ with_record name quota w
  alone_is = record_put t nothing name quota ∙ ap (with_record name quota) (nothing_changed t)

  quotas_are : released_quotas w (alone t empty quotas) ≡ name ∷ []
  quotas_are = quotas_alone t empty quotas ∙ ap (flat_map (quota_relimited w)) (one_entry name quota)
      ∙ append-nil (quota_relimited w (name, Some quota)) ∙ ap (λ b. if b then name ∷ [] else []) relimited

  rooms_are : released_rooms w (alone t empty quotas) ≡ []
  rooms_are = rooms_alone t empty quotas ∙ ap (flat_map (rooms_of_pool w)) (entries_empty names one_name)

  pub limits_past : is_past_bound w ≡ false → is_past_bound (settle w (with_record name quota w)) ≡ given_limits_pass w name
  limits_past within = ap (λ x. is_past_bound (settle w x)) (sym alone_is)
      ∙ alone_past t empty quotas [] (name ∷ []) rooms_are quotas_are within (ap (list_any (places_pass w)) (entries_empty names one_name))
      ∙ ap (λ b. b || list_any (given_waking_passes w [] (name ∷ [])) w.blocked) (or_none (quota_passes w name))

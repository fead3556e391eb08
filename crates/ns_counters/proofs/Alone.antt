-- A step that changes pools or quotas, and does nothing else.
use Rattle.std.specs.Prelude.{◌≡◌, Bool, true, false, cond, ◌&&◌, ◌||◌, List, [], ◌∷◌, ◌++◌, Option, Some, None, flat_map}
use Rattle.std.proofs.Common.{refl, ap, ◌∙◌, append-nil}
use Rattle.std.specs.Option.{option_and_then, option_map_or}
use Rattle.std.specs.List.{list_any}
use Rattle.std.specs.FinMap.{empty, entries, entries-insert, get, insert}
use Rattle.std.specs.FinMap.Entries.{put}
use Rattle.keyed.specs.Table.{has_slot, with_slot}
use Rattle.ns_types.specs.declared.allocation.Allocation.{Allocation}
use Rattle.ns_types.specs.declared.node.Class.{Class}
use Rattle.ns_types.specs.declared.records.Namespace.{Namespace}
use Rattle.ns_types.specs.declared.records.Quota.{Quota}
use Rattle.ns_types.specs.Settling.Settle.{settle}
use Rattle.ns_types.specs.State.Names.{Name, Key, ByName, name_cmp}
use Rattle.ns_types.specs.State.Rows.{World, Tenant, evaluation_at}
use Rattle.ns_types.specs.Steps.{is_past_bound}
use Rattle.ns_types.proofs.Lists.{any_alike, each}
use Rattle.ns_types.proofs.Named.{names, one_name}
use Rattle.ns_types.proofs.TableRows.{entries_empty}
use Rattle.ns_change.specs.declared.change.Change.{Change}
use Rattle.ns_change.specs.declared.change.PoolChange.{PoolChange}
use Rattle.ns_change.specs.declared.change.TenantChange.{TenantChange}
use Rattle.ns_change.specs.Changed.{changed}
use Rattle.ns_change.proofs.Nothing.{nothing, nothing_changed}
use Rattle.ns_tables.specs.declared.tables.Tables.{Tables}
use Rattle.ns_tables.specs.World.{world_of}
use Rattle.ns_release.specs.Released.{ended_of, ended_rows, is_woken, quota_left, quota_relimited, released_quotas, released_rooms, rooms_left, rooms_of_pool}
use Rattle.ns_release.proofs.Rooms.{any_none}
use Rattle.ns_release.proofs.Woken.{wakes_nothing}
use Rattle.ns_counters.specs.Bounds.{is_at_bound, places_pass, quota_passes, room_passes, shows_awake, tenant_passes, waking_passes}
use Rattle.ns_counters.specs.Given.{given_waking_passes, given_waking_passes_in}
use Rattle.ns_counters.proofs.Indexes.{past_bound_is}
use Rattle.ns_types.proofs.Gone.{insert_twice}
use Rattle.std.proofs.Math.Bool.{and-false}

pub one_entry : {X : Type 0} (name : Name) (x : X) → entries (insert {R = name_cmp} (with_slot empty name) name (Some x)) ≡ (name, Some x) ∷ []
one_entry {X = X} name x = ap entries (by (has_slot (empty {X = Option X} {R = name_cmp}) name))
    ∙ entries-insert names empty name (Some x) ∙ ap (put name_cmp name (Some x)) (entries_empty names one_name)
  where
    by : (b : Bool) → insert {R = name_cmp} (cond b empty (insert empty name None)) name (Some x) ≡ insert {R = name_cmp} empty name (Some x)
    by true = refl
    by false = insert_twice names one_name empty name None (Some x)

-- where nothing is given, none wakes
pub none_given_wakes : (w : World) → list_any (given_waking_passes w [] []) w.blocked ≡ false
none_given_wakes w = any_alike (given_waking_passes w [] []) (λ _. false) w.blocked (each _ (λ key. by key (get w.tenants key.0)) w.blocked) ∙
    any_none w.blocked
  where
    by : (key : Key) (t : Option Tenant) → option_map_or (given_waking_passes_in w [] [] key) t false ≡ false
    by key None = refl
    by key (Some t) = ap (λ b. is_at_bound t.index && (b && shows_awake t key.1 (evaluation_at w key))) (wakes_nothing w key) ∙ and-false (is_at_bound t.index)

module _ (t : Tables) (pools : ByName (Option PoolChange)) (quotas : ByName (Option Quota)) where
  abbrev w : World
  w = world_of t

  abbrev pub alone : Change
  alone = record nothing { pools = pools; quotas = quotas }

  -- ---- what it releases

  none_ended : ended_rows w alone ≡ []
  none_ended = ap (flat_map (λ (e : Name × Option TenantChange). ended_of w e.0 e.1)) (entries_empty names one_name)

  pub rooms_alone : released_rooms w alone ≡ flat_map (rooms_of_pool w) (entries pools)
  rooms_alone = ap (λ l. flat_map (rooms_of_pool w) (entries pools) ++ flat_map (rooms_left (changed w alone)) l) none_ended
      ∙ append-nil (flat_map (rooms_of_pool w) (entries pools))

  pub quotas_alone : released_quotas w alone ≡ flat_map (quota_relimited w) (entries quotas)
  quotas_alone = ap (λ l. flat_map (quota_relimited w) (entries quotas) ++ flat_map (λ (e : Namespace × Allocation). quota_left e.0) l) none_ended
      ∙ append-nil (flat_map (quota_relimited w) (entries quotas))

  module _ (rooms : List (Name × Class)) (names_released : List Name) (rooms_are : released_rooms w alone ≡ rooms)
      (quotas_are : released_quotas w alone ≡ names_released) where
    -- ---- whom that wakes

    tenants_are : (changed w alone).tenants ≡ w.tenants
    unfolding changed
    tenants_are = ap (λ w. w.tenants) (nothing_changed t)

    waking_is : (key : Key) → waking_passes w alone key ≡ given_waking_passes w rooms names_released key
    waking_is key = λ i. option_map_or (λ t. is_at_bound t.index && (is_woken w alone.blocked (rooms_are i) (quotas_are i) key
        && shows_awake t key.1 (option_and_then (λ t. get t.evaluations key.1) (get (tenants_are i) key.0)))) (get w.tenants key.0) false

    -- ---- counters

    no_change : list_any (tenant_passes w alone) (entries alone.tenants) ≡ false
    no_change = ap (list_any (tenant_passes w alone)) (entries_empty names one_name)

    pub alone_past : is_past_bound w ≡ false → list_any (places_pass w) (entries pools) ≡ false → is_past_bound (settle w (changed w alone))
        ≡ (list_any (room_passes w) rooms || (list_any (quota_passes w) names_released || list_any (given_waking_passes w rooms names_released) w.blocked))
    alone_past within places = past_bound_is w alone within
        ∙ (λ i. (no_change i || any_alike _ (given_waking_passes w rooms names_released) w.blocked (each _ waking_is w.blocked) i)
        || (list_any (room_passes w) (rooms_are i) || places i) || list_any (quota_passes w) (quotas_are i))
        ∙ turned (list_any (given_waking_passes w rooms names_released) w.blocked) (list_any (room_passes w) rooms) (list_any (quota_passes w) names_released)
      where
        turned : (a b c : Bool) → ((a || (b || false)) || c) ≡ (b || (c || a))
        turned true true c = refl
        turned true false true = refl
        turned true false false = refl
        turned false true c = refl
        turned false false true = refl
        turned false false false = refl

-- What a node that goes down takes along, by the index of live allocations.
use Rattle.std.specs.Prelude.{◌≡◌, ℕ, false, List, [], ◌∷◌, ◌++◌, Option, Some, None, flat_map, length, map}
use Rattle.std.proofs.Common.{refl, sym, ap, ◌∙◌}
use Rattle.std.proofs.lemmas.List.{length-map}
use Rattle.std.specs.FinMap.{entries, from_entries, get, keys, values}
use Rattle.std.specs.Option.{option_and_then, option_map_or}
use Rattle.keyed.specs.declared.key_set.KeySet.{KeySet}
use Rattle.keyed.specs.Levels.{holds_key}
use Rattle.keyed.specs.Table.{flat, row_list, rows}
use Rattle.keyed.proofs.Levels.{none_there}
use Rattle.keyed.proofs.Tables.{entries-rows}
use Rattle.ns_types.specs.declared.allocation.Allocation.{Allocation}
use Rattle.ns_types.specs.State.Names.{Name, Key, ByNumber, has_key, name_cmp}
use Rattle.ns_types.specs.State.Rows.{World, Tenant, allocation_at, is_live_on}
use Rattle.ns_types.proofs.Elements.{map_map}
use Rattle.ns_types.proofs.Named.{names, one_name}
use Rattle.ns_types.proofs.TableRows.{no_entries}
use Rattle.ns_types.proofs.Tables.{each_row}
use Rattle.ns_live_index.specs.Listed.{keys_in}
use Rattle.ns_live_index.proofs.Listing.{flat_alike, flat_at_keys, live_set, no_losses}
use Rattle.ns_nodes.specs.Losing.{IsLiveSet, loses, losing_keys, losing_keys_at, losing_keys_in, losing_rows, job_keys_at, slot_key, slot_keys}
use Rattle.ns_nodes.proofs.Judged.{none_held, rows_by}
use Rattle.ns_nodes.proofs.Losses.{jobs_are, keys_at}
use Rattle.ns_nodes.proofs.LossPast.{no_jobs}
use Rattle.ns_nodes.proofs.Renewed.{all_rows, keys_of, losses_are}

-- ---- lists

-- ---- slot by slot, the keys in their order

slots_listed : (ns : Name) (slots : List (ℕ × Option Unit)) → flat_map (slot_key ns) slots ≡ map (λ e. (ns, e.0)) (row_list slots)
slots_listed ns [] = refl
slots_listed ns ((n, None) ∷ slots) = slots_listed ns slots
slots_listed ns ((n, Some key) ∷ slots) = ap (λ l. (ns, n) ∷ l) (slots_listed ns slots)

numbers_listed : (ns : Name) (its : ByNumber (Option Unit)) → flat_map (slot_key ns) (entries its) ≡ map (λ n. (ns, n)) (keys (rows its))
numbers_listed ns its = slots_listed ns (entries its) ∙ ap (map (λ (e : ℕ × Unit). (ns, e.0))) (sym (entries-rows its))
    ∙ sym (map_map (λ n. (ns, n)) (λ (e : ℕ × Unit). e.0) (entries (rows its)))

all_listed : (slots : List (Name × Option (ByNumber (Option Unit)))) →
    flat_map slot_keys slots ≡ flat_map (λ e. map (λ n. (e.0, n)) (keys (rows e.1))) (row_list slots)
all_listed [] = refl
all_listed ((ns, None) ∷ slots) = all_listed slots
all_listed ((ns, Some its) ∷ slots) = λ i. numbers_listed ns its i ++ all_listed slots i

keys_listed : (held : KeySet) → flat_map slot_keys (entries held.numbers) ≡ keys_in held
keys_listed held = all_listed (entries held.numbers)
    ∙ ap (flat_map (λ (e : Name × ByNumber (Option Unit)). map (λ n. (e.0, n)) (keys (rows e.1)))) (sym (entries-rows held.numbers))

-- ---- the node's

module _ (w : World) (pool node : Name) where
  none_in : (ns : Name) (t : Tenant) → loses pool node t ≡ false → losing_keys_in pool node ns t ≡ []
  none_in ns t none = no_entries _ (length-map (losing_rows pool node t) (λ a. (ns, a.0))
      ∙ sym (length-map (losing_rows pool node t) (λ a. a.1))
      ∙ ap length (sym (jobs_are pool node t)) ∙ ap length (no_jobs pool node t none))

  module _ (held : KeySet) (right : (key : Key) → holds_key held key ≡ option_map_or (is_live_on pool node) (allocation_at w key) false) where
    pub live_keys_are : IsLiveSet w pool node (flat_map slot_keys (entries held.numbers))
    live_keys_are ns t n a is there = ap (λ keys. has_key keys (ns, n)) (keys_listed held) ∙ live_set w pool node held right ns t n a is there

    slot_losing : (ns : Name) (slot : Option (ByNumber (Option Unit))) → get held.numbers ns ≡ Some slot →
        option_map_or (losing_keys_in pool node ns) (get w.tenants ns) [] ≡ losing_keys_at w pool node (ns, slot)
    slot_losing ns None at = by (get w.tenants ns) refl
      where
        by : (o : Option Tenant) → get w.tenants ns ≡ o → option_map_or (losing_keys_in pool node ns) o [] ≡ []
        by None is = refl
        by (Some t) is = none_in ns t (none_held w pool node held right ns t is (ap flat at))
    slot_losing ns (Some its) at = by (get w.tenants ns) refl
      where
        by : (o : Option Tenant) → get w.tenants ns ≡ o → option_map_or (losing_keys_in pool node ns) o []
            ≡ option_map_or (λ t. job_keys_at pool node ns t (entries its)) o []
        by None is = refl
        by (Some t) is = ap (λ rows. map (λ (a : ℕ × Allocation). (ns, a.0)) (values (from_entries {R = name_cmp} (map (λ a. (a.1.job, a)) rows))))
            (rows_by w pool node held right ns t is its (ap flat at)) ∙ sym (keys_at pool node ns t (entries its))

    -- no other namespace is looked at
    pub losing_are : losing_keys pool node w ≡ flat_map (losing_keys_at w pool node) (entries held.numbers)
    losing_are = flat_at_keys names one_name w.tenants held.numbers (λ ns t. losing_keys_in pool node ns t)
        (λ ns t is out. none_in ns t (none_held w pool node held right ns t is (ap flat (none_there (get held.numbers ns) out))))
        ∙ flat_alike (λ e. option_map_or (losing_keys_in pool node e.0) (get w.tenants e.0) []) (losing_keys_at w pool node) (entries held.numbers)
        (each_row names one_name (λ ns slot. option_map_or (losing_keys_in pool node ns) (get w.tenants ns) [] ≡ losing_keys_at w pool node (ns, slot))
        held.numbers slot_losing)

  -- where nothing is live there
  module _ (none : (key : Key) → option_map_or (is_live_on pool node) (allocation_at w key) false ≡ false) where
    pub none_live : IsLiveSet w pool node []
    none_live ns t n a is there = sym (none (ns, n)) ∙ ap (λ o. option_map_or (is_live_on pool node) o false)
        (ap (option_and_then (λ (t : Tenant). get t.allocations n)) is ∙ there)

    pub none_losing : losing_keys pool node w ≡ []
    none_losing = no_entries _ (ap length (keys_of pool node w) ∙ length-map (all_rows pool node w) (λ e. (e.0, e.1.0))
        ∙ sym (length-map (all_rows pool node w) (λ e. (e.0, e.1.1))) ∙ ap length (sym (losses_are pool node w))
        ∙ ap length (no_losses w pool node none))

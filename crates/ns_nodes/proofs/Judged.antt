-- Whether a node that goes down passes the bound of a counter, as the index of live allocations tells.
use Rattle.std.specs.Prelude.{◌≡◌, ℕ, ◌+◌, Bool, true, false, ◌&&◌, ◌||◌, Option, Some, None, filter, is_some, length, map, nat_lt}
use Rattle.std.proofs.Common.{refl, sym, ap, ◌∙◌, arith}
use Rattle.std.specs.Option.{option_and_then, option_map_or}
use Rattle.std.specs.List.{list_any}
use Rattle.std.specs.FinMap.{contains_key, entries, from_entries, get, values}
use Rattle.keyed.specs.declared.key_set.KeySet.{KeySet}
use Rattle.keyed.specs.Levels.{holds_key}
use Rattle.keyed.specs.Table.{flat, row_at, row_list}
use Rattle.keyed.proofs.Levels.{none_there}
use Rattle.keyed.proofs.Over.{any_row-before}
use Rattle.keyed.proofs.Tables.{entries-rows}
use Rattle.ns_types.specs.declared.allocation.Allocation.{Allocation}
use Rattle.ns_types.specs.declared.node.Node.{Node}
use Rattle.ns_types.specs.Asking.Nodes.{go_down}
use Rattle.ns_types.specs.Settling.Making.{put_pool}
use Rattle.ns_types.specs.Settling.Settle.{settle}
use Rattle.ns_types.specs.State.Names.{Name, Key, ByNumber, name_cmp}
use Rattle.ns_types.specs.State.Rows.{World, PoolRows, Tenant, allocation_at, is_live_on, node_at}
use Rattle.ns_types.specs.State.Tables.{table_of}
use Rattle.ns_types.specs.Steps.{greatest, is_past_bound, is_tenant_past_bound}
use Rattle.ns_types.proofs.Lists.{any_alike, left_none, not_both, right_none}
use Rattle.ns_types.proofs.Named.{names, numbers, one_name, one_number}
use Rattle.ns_types.proofs.Tables.{any_row-none, each_row, entries-table_of, filter-retain, none_of_any}
use Rattle.ns_change.specs.Changed.{change_pool}
use Rattle.ns_nodes.specs.Losing.{is_live_at, looked, loses, loss_passes, loss_passes_at, loss_passes_in, numbers_pass, numbers_pass_at, numbers_pass_in}
use Rattle.ns_counters.specs.Given.{left_quota_passes}
use Rattle.ns_nodes.specs.Losing.{tenant_passes_at}
use Rattle.keyed.proofs.RowsAtKeys.{entries_looked}
use Rattle.ns_nodes.proofs.Down.{down_node}
use Rattle.ns_nodes.proofs.LossPast.{down_past, no_jobs}
use Rattle.ns_counters.specs.Bounds.{is_at_bound}

-- ---- by the keys of the node

module _ (w : World) (pool node : Name) where
  abbrev lives_at : Key → Bool
  lives_at key = option_map_or (is_live_on pool node) (allocation_at w key) false

  abbrev tenant_passes : Name → Tenant → Bool
  tenant_passes _ t = loses pool node t && loss_passes_in w pool node t

  none_lives : (ns : Name) (t : Tenant) → get w.tenants ns ≡ Some t → ((n : ℕ) → lives_at (ns, n) ≡ false) → loses pool node t ≡ false
  none_lives ns t is none = any_row-none numbers one_number (λ _ a. is_live_on pool node a) t.allocations (λ n a it.
      sym (ap (λ o. option_map_or (is_live_on pool node) o false) (ap (option_and_then (λ (t : Tenant). get t.allocations n)) is ∙ it)) ∙ none n)

  -- where none is live there
  pub none_judged : ((key : Key) → lives_at key ≡ false) → loss_passes w pool node ≡ false
  none_judged none = any_row-none names one_name tenant_passes w.tenants
      (λ ns t is. ap (λ b. b && loss_passes_in w pool node t) (none_lives ns t is (λ n. none (ns, n))))

  module _ (keys : KeySet) (right : (key : Key) → holds_key keys key ≡ lives_at key) where
    pub none_held : (ns : Name) (t : Tenant) → get w.tenants ns ≡ Some t → row_at keys.numbers ns ≡ None → loses pool node t ≡ false
    none_held ns t is none = none_lives ns t is (λ n. sym (right (ns, n))
        ∙ ap (λ r. option_map_or (λ (s : ByNumber (Option Unit)). is_some (row_at s n)) r false) none)

    module _ (ns : Name) (t : Tenant) (is : get w.tenants ns ≡ Some t) (its : ByNumber (Option Unit)) (at : row_at keys.numbers ns ≡ Some its) where
      held : (n : ℕ) → option_map_or (is_live_on pool node) (get t.allocations n) false ≡ is_some (row_at its n)
      held n = sym (ap (λ o. option_map_or (is_live_on pool node) (option_and_then (λ (t : Tenant). get t.allocations n) o) false) is)
          ∙ sym (right (ns, n)) ∙ ap (λ r. option_map_or (λ (s : ByNumber (Option Unit)). is_some (row_at s n)) r false) at

      idle : (n : ℕ) (a : Allocation) → get t.allocations n ≡ Some a → contains_key its n ≡ false → is_live_on pool node a ≡ false
      idle n a it out = sym (ap (λ o. option_map_or (is_live_on pool node) o false) it) ∙ held n
          ∙ ap (λ r. is_some (flat r)) (none_there (get its n) out)

      loses_by : loses pool node t ≡ list_any (is_live_at pool node t) (entries its)
      loses_by = any_row-before numbers one_number (λ _ a. is_live_on pool node a) t.allocations its idle

      -- the live allocations are among the rows at the numbers, in their order
      pub rows_by : filter (λ a. is_live_on pool node a.1) (entries t.allocations)
          ≡ filter (λ a. is_live_on pool node a.1) (row_list (map (looked t) (entries its)))
      rows_by = filter-retain numbers one_number (λ _ a. is_live_on pool node a) t.allocations (contains_key its) idle
          ∙ ap (filter (λ (a : ℕ × Allocation). is_live_on pool node a.1)) (entries_looked numbers one_number t.allocations its)

      numbers_by : numbers_pass_in pool node t ≡ numbers_pass_at pool node t (entries its)
      numbers_by = ap (λ rows. nat_lt greatest (t.evaluation_number
          + length (values (from_entries {R = name_cmp} (map (λ (a : ℕ × Allocation). (a.1.job, a.1)) rows))))) rows_by

    slot_judged : (ns : Name) (slot : Option (ByNumber (Option Unit))) → get keys.numbers ns ≡ Some slot →
        option_map_or (tenant_passes ns) (get w.tenants ns) false ≡ loss_passes_at w pool node (ns, slot)
    slot_judged ns None at = by (get w.tenants ns) refl
      where
        by : (o : Option Tenant) → get w.tenants ns ≡ o → option_map_or (tenant_passes ns) o false ≡ false
        by None is = refl
        by (Some t) is = ap (λ b. b && loss_passes_in w pool node t) (none_held ns t is (ap flat at))
    slot_judged ns (Some its) at = by (get w.tenants ns) refl
      where
        by : (o : Option Tenant) → get w.tenants ns ≡ o → option_map_or (tenant_passes ns) o false
            ≡ option_map_or (λ t. tenant_passes_at w pool node t (entries its)) o false
        by None is = refl
        by (Some t) is = λ i. loses_by ns t is its (ap flat at) i
            && (is_at_bound t.index || numbers_by ns t is its (ap flat at) i || left_quota_passes w t)

    pub judged : loss_passes w pool node ≡ list_any (loss_passes_at w pool node) (entries keys.numbers)
    judged = any_row-before names one_name tenant_passes w.tenants keys.numbers (λ ns t is out.
        ap (λ b. b && loss_passes_in w pool node t) (none_held ns t is (ap flat (none_there (get keys.numbers ns) out))))
        ∙ any_alike _ (loss_passes_at w pool node) (entries keys.numbers)
        (each_row names one_name (λ ns slot. option_map_or (tenant_passes ns) (get w.tenants ns) false ≡ loss_passes_at w pool node (ns, slot))
        keys.numbers slot_judged)

-- ---- what that says of the step

module _ (w : World) (within : is_past_bound w ≡ false) (pool node : Name) where
  number_within : (ns : Name) (t : Tenant) → get w.tenants ns ≡ Some t → nat_lt greatest t.evaluation_number ≡ false
  unfolding is_past_bound
  number_within ns t is = right_none (nat_lt greatest t.index) _ (left_none _ _
      (none_of_any one_name (λ _ t. is_tenant_past_bound t) w.tenants ns t (left_none _ _ (left_none _ _ within)) is))

  -- each evaluation can have its number
  pub numbers_within : loss_passes w pool node ≡ false → numbers_pass pool node w ≡ false
  numbers_within none = any_row-none names one_name (λ _ t. numbers_pass_in pool node t) w.tenants (λ ns t is. by ns t is (loses pool node t) refl)
    where
      by : (ns : Name) (t : Tenant) → get w.tenants ns ≡ Some t → (b : Bool) → loses pool node t ≡ b → numbers_pass_in pool node t ≡ false
      by ns t is true some = right_none (is_at_bound t.index) _ (left_none _ (left_quota_passes w t)
          (sym (ap (λ b. b && loss_passes_in w pool node t) some)
          ∙ none_of_any one_name (λ _ t. loses pool node t && loss_passes_in w pool node t) w.tenants ns t none is))
      by ns t is false kept =
          let same : t.evaluation_number + 0 ≡ t.evaluation_number = omega arith in
          ap (λ jobs. nat_lt greatest (t.evaluation_number + length jobs)) (no_jobs pool node t kept)
          ∙ ap (nat_lt greatest) same ∙ number_within ns t is

  pub settled_past : (row : Node) → node_at w pool node ≡ Some row →
      is_past_bound (settle w (go_down pool node (change_pool pool (down_node w pool node row) w))) ≡ loss_passes w pool node
  settled_past row is = by (get w.pools pool) refl is
    where
      by : (o : Option PoolRows) → get w.pools pool ≡ o → option_and_then (λ p. get p.nodes node) o ≡ Some row →
          is_past_bound (settle w (go_down pool node (change_pool pool (down_node w pool node row) w))) ≡ loss_passes w pool node
      by None at is = not_both (ap is_some is) refl
      by (Some p) at is =
          ap (λ o. is_past_bound (settle w (go_down pool node (option_map_or (λ p. put_pool pool (down_node w pool node row p) w) o w)))) at
          ∙ down_past w pool node p at row is within

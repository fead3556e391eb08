-- The bound of a counter is passed by a node that goes down exactly where what some namespace loses passes it.
use Rattle.std.specs.Prelude.{◌≡◌, ℕ, ◌+◌, Bool, true, false, cond, not, ◌&&◌, ◌||◌, List, [], ◌∷◌, ◌++◌, Option, Some, None, filter, flat_map, length, map}
use Rattle.std.specs.Prelude.{nat_lt, option_map, if◌then◌else◌}
use Rattle.std.proofs.Common.{refl, sym, ap, ◌∙◌}
use Rattle.std.specs.Option.{option_and_then, option_map_or}
use Rattle.std.specs.List.{list_any}
use Rattle.std.specs.FinMap.{empty, entries, entries-insert, from_entries, get, values}
use Rattle.std.specs.FinMap.Entries.{put}
use Rattle.keyed.specs.Table.{at_slot, row_list}
use Rattle.keyed.proofs.Over.{any_both}
use Rattle.ns_types.specs.declared.allocation.Allocation.{Allocation}
use Rattle.ns_types.specs.declared.allocation.ClientStatus.TheVariants as ClientStatus
use Rattle.ns_types.specs.declared.evaluation.Evaluation.{Evaluation}
use Rattle.ns_types.specs.declared.node.Node.{Node}
use Rattle.ns_types.specs.declared.records.Namespace.{Namespace}
use Rattle.ns_types.specs.Asking.Nodes.{losing_jobs, losses, lost}
use Rattle.ns_types.specs.Settling.Same.{same_allocation}
use Rattle.ns_types.specs.Settling.Settle.{changes_allocation, changes_evaluation, is_changed, settle}
use Rattle.ns_types.specs.State.Names.{Name, Key, name_cmp, same_name}
use Rattle.ns_types.specs.State.Rows.{World, PoolRows, Tenant, class_of, evaluation_at, is_held, is_live, is_live_on, is_run, node_at}
use Rattle.ns_types.specs.State.Tables.{any_row, table_of}
use Rattle.ns_types.specs.Steps.{greatest, is_past_bound}
use Rattle.ns_types.specs.Wire.Words.{client_text}
use Rattle.ns_types.proofs.Alike.{same_allocation_refl}
use Rattle.ns_types.proofs.Bounds.{tenant_within}
use Rattle.ns_types.proofs.Elements.{any_flat, any_map}
use Rattle.ns_types.proofs.Lists.{any_alike, each, left_none, not_both, right_none, none_of}
use Rattle.ns_types.proofs.Named.{first_of_both, names, numbers, one_name, one_number, same_name_is, second_of_both}
use Rattle.ns_types.proofs.Settling.{kept_evaluation}
use Rattle.ns_types.proofs.TableRows.{any_row-alike, entries_empty, filter_no_row}
use Rattle.ns_types.proofs.Tables.{any_row-none, each_row, entries-table_of, map_rows_idle, none_of_any}
use Rattle.ns_types.proofs.Tests.{or_none, and_yes}
use Rattle.ns_change.specs.declared.change.Change.{Change}
use Rattle.ns_change.specs.declared.change.PoolChange.{PoolChange}
use Rattle.ns_change.specs.declared.change.TenantChange.{TenantChange}
use Rattle.ns_change.specs.Changed.{changed}
use Rattle.ns_nodes.proofs.Gone.{lost_rows}
use Rattle.ns_nodes.specs.Losing.{loses, loss_passes, loss_passes_in, numbers_pass_in}
use Rattle.ns_nodes.proofs.AsChange.{after, change, changed_is, down_row, losses_counted, node_then, nodes, renewed_none}
use Rattle.ns_nodes.proofs.AsChange.{renewed_number, tenants_then, then_world, whole}
use Rattle.ns_nodes.proofs.Within.{places_in}
use Rattle.ns_release.specs.Released.{does_wake}
use Rattle.ns_counters.specs.Bounds.{is_at_bound, is_place_past, is_waking, passes_in, places_pass, quota_passes, room_passes}
use Rattle.ns_counters.specs.Bounds.{shows_asleep, shows_awake, tenant_passes, waking_passes, waking_passes_in}
use Rattle.ns_counters.specs.Given.{given_limits_pass, given_waking_passes, given_waking_passes_in, left_quota_passes}
use Rattle.ns_release.specs.Released.{ended_in, ended_of, ended_one, ended_rows, gives_itself, in_pool, quota_left, quota_relimited, quotas_left}
use Rattle.ns_release.specs.Released.{released_quotas, released_rooms, releases_wake_at, room_left, rooms_left, rooms_of_pool}
use Rattle.ns_release.specs.Shown.{changes_job_row}
use Rattle.ns_counters.proofs.Bounded.{any_row-either, any_with}
use Rattle.ns_counters.proofs.Indexes.{past_bound_is}
use Rattle.ns_release.proofs.Rooms.{any_swap, at_row}
use Rattle.ns_release.proofs.Together.{wakes_by_quotas}
use Rattle.ns_counters.proofs.Passing.{empty_by_any}
use Rattle.std.proofs.lemmas.Bool.{and_right}
use Rattle.std.proofs.Math.Bool.{and-false}

-- ---- an allocation that is lost

text_differs : (s : _) → is_held s ≡ true → same_name (client_text s) (client_text ClientStatus.Lost) ≡ false
text_differs ClientStatus.Pending is = refl
text_differs ClientStatus.Running is = refl
text_differs ClientStatus.Complete is = not_both is refl
text_differs ClientStatus.Failed is = not_both is refl
text_differs ClientStatus.Lost is = not_both is refl

module _ (pool node : Name) where
  -- is shown otherwise
  shown_lost : (a : Allocation) → is_held a.client ≡ true → same_allocation a (record a { client = ClientStatus.Lost }) ≡ false
  unfolding same_allocation
  shown_lost a is = and_right _ _ (text_differs a.client is)

  changed_when : (a : Allocation) → not (same_allocation a (lost pool node a)) ≡ is_live_on pool node a
  changed_when a = by (is_live_on pool node a) refl
    where
      by : (b : Bool) → is_live_on pool node a ≡ b → not (same_allocation a (cond b (record a { client = ClientStatus.Lost }) a)) ≡ b
      by true live = ap not (shown_lost a (second_of_both (is_run a.desired) _ (first_of_both (is_live a) _ live)))
      by false dead = ap not (same_allocation_refl a)

  -- and has ended
  ends_when : (a : Allocation) → (is_live a && not (is_live (lost pool node a))) ≡ is_live_on pool node a
  ends_when a = by (is_live a) (same_name pool a.pool && same_name node a.node) refl
    where
      by : (l o : Bool) → is_live a ≡ l → (l && not (is_live (cond (l && o) (record a { client = ClientStatus.Lost }) a))) ≡ (l && o)
      by true true e = ap not (and-false (is_run a.desired))
      by true false e = ap not e
      by false o e = refl

  -- ---- a namespace that loses none

  module _ (t : Tenant) (none : loses pool node t ≡ false) where
    no_row : (n : ℕ) (a : Allocation) → get t.allocations n ≡ Some a → is_live_on pool node a ≡ false
    no_row n a is = none_of_any one_number (λ _ a. is_live_on pool node a) t.allocations n a none is

    pub no_jobs : losing_jobs pool node t ≡ []
    no_jobs = ap (λ rows. values (from_entries {R = name_cmp} (map (λ (a : ℕ × Allocation). (a.1.job, a.1)) rows)))
        (filter_no_row numbers one_number (λ _ a. is_live_on pool node a) t.allocations no_row)
        ∙ ap (map (λ (e : Name × Allocation). e.1)) (entries_empty names one_name)

    none_lost : lost_rows pool node t ≡ t
    none_lost = λ i. record t {
      allocations = map_rows_idle numbers one_number (λ _ a. lost pool node a) t.allocations
          (λ n a is. ap (λ b. cond b (record a { client = ClientStatus.Lost }) a) (no_row n a is)) i;
    }

-- ---- the world

module _ (w : World) (pool name : Name) (p : PoolRows) (at : get w.pools pool ≡ Some p) (row : Node) (there : get p.nodes name ≡ Some row)
    (within : is_past_bound w ≡ false) where
  abbrev then_is : Name → Tenant → Tenant
  then_is = after w pool name p at row

  abbrev all_of : Name → Tenant → TenantChange
  all_of = whole w pool name p at row

  abbrev c : Change
  c = change w pool name p at row

  unchanged : (ns : Name) (t : Tenant) → get w.tenants ns ≡ Some t → loses pool name t ≡ false → then_is ns t ≡ t
  unchanged ns t is none = renewed_none (losses pool name w) ns (lost_rows pool name t)
      (losses_counted w pool name ns t is ∙ ap length (no_jobs pool name t none)) ∙ none_lost pool name t none

  number_then : (ns : Name) (t : Tenant) → get w.tenants ns ≡ Some t →
      (then_is ns t).evaluation_number ≡ t.evaluation_number + length (losing_jobs pool name t)
  number_then ns t is = renewed_number (losses pool name w) ns (lost_rows pool name t)
      ∙ ap (λ n. t.evaluation_number + n) (losses_counted w pool name ns t is)

  -- ---- what the change of a namespace passes

  abbrev own_passes : Tenant → Bool
  own_passes t = is_at_bound t.index || numbers_pass_in pool name t

  rows_touched : (t : Tenant) → list_any (at_slot (λ e. changes_allocation t e.0 e.1)) (entries (table_of (λ _ a. Some (lost pool name a)) t.allocations))
      ≡ loses pool name t
  unfolding any_row
  rows_touched t = ap (list_any (at_slot (λ e. changes_allocation t e.0 e.1))) (entries-table_of (λ _ a. Some (lost pool name a)) t.allocations)
      ∙ any_map (at_slot (λ e. changes_allocation t e.0 e.1)) (λ (e : ℕ × Allocation). (e.0, Some (lost pool name e.1))) (entries t.allocations)
      ∙ any_alike _ (λ e. is_live_on pool name e.1) (entries t.allocations)
      (each_row numbers one_number (λ n a. changes_allocation t n (lost pool name a) ≡ is_live_on pool name a) t.allocations
      (λ n a is. ap (λ o. is_changed same_allocation o (lost pool name a)) is ∙ changed_when pool name a))

  asleep_none : (ns : Name) (t : Tenant) → get w.tenants ns ≡ Some t → loses pool name t ≡ false →
      list_any (shows_asleep w c ns t) (entries (table_of (λ _ e. Some e) (then_is ns t).evaluations)) ≡ false
  asleep_none ns t is none = ap (λ (u : Tenant). list_any (shows_asleep w c ns t) (entries (table_of (λ _ e. Some e) u.evaluations)))
      (unchanged ns t is none)
      ∙ ap (list_any (shows_asleep w c ns t)) (entries-table_of (λ _ e. Some e) t.evaluations)
      ∙ any_map (shows_asleep w c ns t) (λ (e : ℕ × Evaluation). (e.0, Some e.1)) (entries t.evaluations)
      ∙ any_alike _ (λ _. false) (entries t.evaluations)
      (each_row numbers one_number (λ n e. (not (is_waking w c (ns, n)) && changes_evaluation t n e) ≡ false) t.evaluations
      (λ n e at. and_right _ _ (kept_evaluation t n e at)))
      ∙ none_of (entries t.evaluations)

  change_passes : (ns : Name) (t : Tenant) → get w.tenants ns ≡ Some t →
      passes_in w c ns (all_of ns t) t ≡ (loses pool name t && own_passes t)
  change_passes ns t is = by (loses pool name t) refl
    where
      placed : nat_lt greatest t.allocation_number ≡ false
      placed = right_none (nat_lt greatest t.index || nat_lt greatest t.evaluation_number) (nat_lt greatest t.allocation_number)
          (tenant_within w ns t within is)

      numbered : nat_lt greatest t.evaluation_number ≡ false
      numbered = right_none (nat_lt greatest t.index) (nat_lt greatest t.evaluation_number)
          (left_none _ (nat_lt greatest t.allocation_number) (tenant_within w ns t within is))

      jobs : list_any (λ e. changes_job_row t e.0 e.1) (entries (all_of ns t).jobs) ≡ false
      jobs = ap (list_any (λ e. changes_job_row t e.0 e.1)) (entries_empty names one_name)

      turned : (n b j s : Bool) → ((n || false) || (b && ((j || s) || true))) ≡ (b || n)
      turned true true j s = refl
      turned true false j s = refl
      turned false false j s = refl
      turned false true true s = refl
      turned false true false true = refl
      turned false true false false = refl

      by : (b : Bool) → loses pool name t ≡ b → passes_in w c ns (all_of ns t) t ≡ (b && own_passes t)
      by true some = (λ i. (nat_lt greatest (number_then ns t is i) || placed i) || (is_at_bound t.index
          && ((list_any (λ e. changes_job_row t e.0 e.1) (entries (all_of ns t).jobs)
          || list_any (shows_asleep w c ns t) (entries (all_of ns t).evaluations)) || (rows_touched t ∙ some) i)))
          ∙ turned (numbers_pass_in pool name t) (is_at_bound t.index) (list_any (λ e. changes_job_row t e.0 e.1) (entries (all_of ns t).jobs))
          (list_any (shows_asleep w c ns t) (entries (all_of ns t).evaluations))
      by false none = (λ i. (nat_lt greatest (unchanged ns t is none i).evaluation_number || placed i) || (is_at_bound t.index
          && ((jobs i || asleep_none ns t is none i) || (rows_touched t ∙ none) i)))
          ∙ (λ i. (numbered i || false) || and-false (is_at_bound t.index) i)

  abbrev changes_pass : Bool
  changes_pass = any_row (λ _ t. loses pool name t && own_passes t) w.tenants

  changes_are : list_any (tenant_passes w c) (entries c.tenants) ≡ changes_pass
  unfolding any_row
  changes_are = ap (list_any (tenant_passes w c)) (entries-table_of (λ ns t. Some (all_of ns t)) w.tenants)
      ∙ any_map (tenant_passes w c) (λ (e : Name × Tenant). (e.0, Some (all_of e.0 e.1))) (entries w.tenants)
      ∙ any_alike _ (λ e. loses pool name e.1 && own_passes e.1) (entries w.tenants)
      (each_row names one_name (λ ns t. tenant_passes w c (ns, Some (all_of ns t)) ≡ (loses pool name t && own_passes t)) w.tenants
      (λ ns t is. ap (λ o. option_map_or (passes_in w c ns (all_of ns t)) o false) is ∙ change_passes ns t is))

  -- ---- what ends

  ended_within : (g : Namespace × Allocation → Bool) (ns : Name) (t : Tenant) →
      list_any g (ended_in t (all_of ns t)) ≡ list_any (λ e. is_live_on pool name e.1 && g (t.namespace, e.1)) (entries t.allocations)
  ended_within g ns t = any_flat g (λ e. ended_one t e.0 e.1) (entries (all_of ns t).allocations)
      ∙ ap (list_any (λ e. list_any g (ended_one t e.0 e.1))) (entries-table_of (λ _ a. Some (lost pool name a)) t.allocations)
      ∙ any_map (λ e. list_any g (ended_one t e.0 e.1)) (λ (e : ℕ × Allocation). (e.0, Some (lost pool name e.1))) (entries t.allocations)
      ∙ any_alike _ (λ e. is_live_on pool name e.1 && g (t.namespace, e.1)) (entries t.allocations)
      (each_row numbers one_number (λ n a. list_any g (ended_one t n (Some (lost pool name a))) ≡ (is_live_on pool name a && g (t.namespace, a)))
      t.allocations (λ n a is. ap (λ o. list_any g (option_map_or
      (λ b. if is_live b && not (is_live (lost pool name a)) then (t.namespace, b) ∷ [] else []) o [])) is
      ∙ at_row (is_live a && not (is_live (lost pool name a))) g (t.namespace, a)
      ∙ ap (λ b. b && g (t.namespace, a)) (ends_when pool name a)))

  ended_any : (g : Namespace × Allocation → Bool) → list_any g (ended_rows w c)
      ≡ any_row (λ _ t. any_row (λ _ a. is_live_on pool name a && g (t.namespace, a)) t.allocations) w.tenants
  unfolding any_row
  ended_any g = any_flat g (λ e. ended_of w e.0 e.1) (entries c.tenants)
      ∙ ap (list_any (λ e. list_any g (ended_of w e.0 e.1))) (entries-table_of (λ ns t. Some (all_of ns t)) w.tenants)
      ∙ any_map (λ e. list_any g (ended_of w e.0 e.1)) (λ (e : Name × Tenant). (e.0, Some (all_of e.0 e.1))) (entries w.tenants)
      ∙ any_alike _ (λ e. list_any (λ a. is_live_on pool name a.1 && g (e.1.namespace, a.1)) (entries e.1.allocations)) (entries w.tenants)
      (each_row names one_name (λ ns t. list_any g (ended_of w ns (Some (all_of ns t)))
      ≡ list_any (λ a. is_live_on pool name a.1 && g (t.namespace, a.1)) (entries t.allocations)) w.tenants
      (λ ns t is. ap (λ o. list_any g (option_map_or (λ u. ended_in u (all_of ns t)) o [])) is ∙ ended_within g ns t))

  -- ---- quotas

  abbrev quotas : List Name
  quotas = released_quotas w c

  quotas_any : (f : Name → Bool) → list_any f quotas ≡ any_row (λ _ t. loses pool name t && option_map_or f t.namespace.quota false) w.tenants
  unfolding any_row
  quotas_any f = ap (λ slots. list_any f (flat_map (quota_relimited w) slots ++ quotas_left w c)) (entries_empty names one_name)
      ∙ any_flat f (λ e. quota_left e.0) (ended_rows w c) ∙ ended_any (λ e. list_any f (quota_left e.0))
      ∙ any_alike _ (λ e. loses pool name e.1 && option_map_or f e.1.namespace.quota false) (entries w.tenants)
      (each _ (λ e. sym (any_with (λ a. is_live_on pool name a.1) (list_any f (quota_left e.1.namespace)) (entries e.1.allocations))
      ∙ ap (λ b. loses pool name e.1 && b) (by e.1.namespace.quota)) (entries w.tenants))
    where
      by : (o : Option Name) → list_any f (option_map_or (λ quota. quota ∷ []) o []) ≡ option_map_or f o false
      by None = refl
      by (Some quota) = or_none (f quota)

  -- ---- room

  abbrev row_then : Node
  row_then = down_row w pool name p at row

  abbrev its_nodes : PoolChange
  its_nodes = nodes w pool name p at row

  node_entries : entries its_nodes.nodes ≡ (name, Some row_then) ∷ []
  node_entries = entries-insert names empty name (Some row_then)
      ∙ ap (put name_cmp name (Some row_then)) (entries_empty names one_name)

  pool_entries : entries c.pools ≡ (pool, Some its_nodes) ∷ []
  pool_entries = entries-insert names empty pool (Some its_nodes)
      ∙ ap (put name_cmp pool (Some its_nodes)) (entries_empty names one_name)

  -- the node gives none itself
  none_given : rooms_of_pool w (pool, Some its_nodes) ≡ []
  none_given = ap (λ slots. in_pool pool (option_map_or
      (λ q. map (λ e. class_of e.1) (filter (λ e. gives_itself q e.0 e.1) (row_list slots))) (get w.pools pool) [])) node_entries ∙ by (get w.pools pool)
    where
      by : (o : Option PoolRows) → in_pool pool (option_map_or (λ q. map (λ e. class_of e.1)
          (filter (λ e. gives_itself q e.0 e.1) (row_list ((name, Some row_then) ∷ [])))) o []) ≡ []
      by None = refl
      by (Some q) = refl

  -- nor where allocations are lost
  no_room : (a : Allocation) → (is_live_on pool name a && list_any (λ _. true) (in_pool a.pool (room_left (node_at (changed w c) a.pool a.node)))) ≡ false
  no_room a = by (is_live_on pool name a) refl
    where
      by : (b : Bool) → is_live_on pool name a ≡ b →
          (b && list_any (λ _. true) (in_pool a.pool (room_left (node_at (changed w c) a.pool a.node)))) ≡ false
      by false dead = refl
      by true live =
          let on = second_of_both (is_live a) _ live in
          let its_pool = same_name_is pool a.pool (first_of_both (same_name pool a.pool) _ on) in
          let its_node = same_name_is name a.node (second_of_both (same_name pool a.pool) _ on) in
          ap (λ o. list_any (λ _. true) (in_pool a.pool (room_left o)))
          ((λ i. node_at (changed w c) (sym its_pool i) (sym its_node i)) ∙ node_then w pool name p at row)

  none_left : flat_map (rooms_left (changed w c)) (ended_rows w c) ≡ []
  none_left = empty_by_any _ (any_flat (λ _. true) (rooms_left (changed w c)) (ended_rows w c)
      ∙ ended_any (λ e. list_any (λ _. true) (rooms_left (changed w c) e))
      ∙ any_row-none names one_name _ w.tenants (λ ns t is. any_row-none numbers one_number _ t.allocations (λ n a it. no_room a)))

  no_rooms : released_rooms w c ≡ []
  no_rooms = (λ i. flat_map (rooms_of_pool w) (pool_entries i) ++ none_left i) ∙ (λ i. (none_given i ++ []) ++ [])

  no_places : list_any (places_pass w) (entries c.pools) ≡ false
  no_places = ap (list_any (places_pass w)) pool_entries ∙ ap (λ b. b || false) (by (get w.pools pool))
    where
      by : (o : Option PoolRows) → option_map_or (λ _. list_any is_place_past (entries its_nodes.nodes)) o false ≡ false
      by None = refl
      by (Some q) = ap (list_any is_place_past) node_entries ∙ ap (λ b. b || false) (places_in w within pool name p at row there)

  -- ---- whom that wakes

  module _ (key : Key) (quiet : changes_pass ≡ false) where
    no_loss : (t : Tenant) → get w.tenants key.0 ≡ Some t → is_at_bound t.index ≡ true → loses pool name t ≡ false
    no_loss t is last = and_yes (loses pool name t) (sym (ap (λ b. loses pool name t && (b || numbers_pass_in pool name t)) last)
        ∙ none_of_any one_name (λ _ t. loses pool name t && own_passes t) w.tenants key.0 t quiet is)

    same_row : (t : Tenant) → get w.tenants key.0 ≡ Some t → loses pool name t ≡ false → evaluation_at (changed w c) key ≡ evaluation_at w key
    same_row t is none = ap (λ x. evaluation_at x key) (changed_is w pool name p at row)
        ∙ ap (option_and_then (λ (t : Tenant). get t.evaluations key.1)) (tenants_then w pool name p at row key.0 ∙ ap (option_map (then_is key.0)) is)
        ∙ ap (λ (t : Tenant). get t.evaluations key.1) (unchanged key.0 t is none)
        ∙ sym (ap (option_and_then (λ (t : Tenant). get t.evaluations key.1)) is)

    wakes : does_wake w c key ≡ list_any (λ quota. releases_wake_at w [] (quota ∷ []) key) quotas
    wakes = ap (λ rooms. releases_wake_at w rooms quotas key) no_rooms ∙ wakes_by_quotas w quotas key

    by_bound : (t : Tenant) → get w.tenants key.0 ≡ Some t → (b : Bool) → is_at_bound t.index ≡ b →
        (b && (does_wake w c key && shows_awake t key.1 (evaluation_at (changed w c) key)))
        ≡ list_any (λ quota. b && (releases_wake_at w [] (quota ∷ []) key && shows_awake t key.1 (evaluation_at w key))) quotas
    by_bound t is false more = sym (none_of quotas)
    by_bound t is true last = (λ i. wakes i && shows_awake t key.1 (same_row t is (no_loss t is last) i))
        ∙ any_with (λ quota. releases_wake_at w [] (quota ∷ []) key) (shows_awake t key.1 (evaluation_at w key)) quotas

    pub waking_is : waking_passes w c key ≡ list_any (λ quota. given_waking_passes w [] (quota ∷ []) key) quotas
    waking_is = by (get w.tenants key.0) refl
      where
        by : (o : Option Tenant) → get w.tenants key.0 ≡ o →
            option_map_or (waking_passes_in w c key) o false ≡ list_any (λ quota. option_map_or (given_waking_passes_in w [] (quota ∷ []) key) o false) quotas
        by None is = sym (none_of quotas)
        by (Some t) is = by_bound t is (is_at_bound t.index) refl

  abbrev wakings : Bool
  wakings = list_any (λ key. list_any (λ quota. given_waking_passes w [] (quota ∷ []) key) quotas) w.blocked

  wakings_are : (changes_pass || list_any (waking_passes w c) w.blocked) ≡ (changes_pass || wakings)
  wakings_are = by changes_pass refl
    where
      by : (b : Bool) → changes_pass ≡ b → (b || list_any (waking_passes w c) w.blocked) ≡ (b || wakings)
      by true some = refl
      by false quiet = any_alike _ _ w.blocked (each _ (λ key. waking_is key quiet) w.blocked)

  releases_are : (list_any (quota_passes w) quotas || wakings) ≡ any_row (λ _ t. loses pool name t && left_quota_passes w t) w.tenants
  releases_are = ap (λ b. list_any (quota_passes w) quotas || b) (any_swap (λ key quota. given_waking_passes w [] (quota ∷ []) key) w.blocked quotas)
      ∙ sym (any_both (quota_passes w) (λ quota. list_any (given_waking_passes w [] (quota ∷ [])) w.blocked) quotas)
      ∙ quotas_any (given_limits_pass w)

  -- ---- all of it

  pub down_past : is_past_bound (settle w (then_world w pool name p at row)) ≡ loss_passes w pool name
  down_past = ap (λ x. is_past_bound (settle w x)) (sym (changed_is w pool name p at row)) ∙ past_bound_is w c within
      ∙ (λ i. (changes_are i || list_any (waking_passes w c) w.blocked) || (list_any (room_passes w) (no_rooms i) || no_places i)
      || list_any (quota_passes w) quotas)
      ∙ ap (λ b. b || list_any (quota_passes w) quotas) (or_none (changes_pass || list_any (waking_passes w c) w.blocked) ∙ wakings_are)
      ∙ turned changes_pass wakings (list_any (quota_passes w) quotas) ∙ ap (λ b. changes_pass || b) releases_are
      ∙ sym (any_row-either (λ _ t. loses pool name t && own_passes t) (λ _ t. loses pool name t && left_quota_passes w t) w.tenants)
      ∙ any_row-alike names one_name _ (λ _ t. loses pool name t && loss_passes_in w pool name t) w.tenants
      (λ ns t is. shared (loses pool name t) (own_passes t) (left_quota_passes w t))
    where
      turned : (a b q : Bool) → ((a || b) || q) ≡ (a || (q || b))
      turned true b q = refl
      turned false true true = refl
      turned false true false = refl
      turned false false true = refl
      turned false false false = refl

      shared : (l a b : Bool) → ((l && a) || (l && b)) ≡ (l && (a || b))
      shared true a b = refl
      shared false a b = refl

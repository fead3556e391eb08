-- One allocation that gets another row, perhaps with an evaluation that is made: the counters of its namespace, and where the allocation ends what
-- that releases, are all that can pass a bound.
use Rattle.std.specs.Prelude.{◌≡◌, ℕ, ◌+◌, Bool, true, false, cond, not, ◌&&◌, ◌||◌, if◌then◌else◌, List, [], ◌∷◌, ◌++◌, Option, Some, None, flat_map}
use Rattle.std.specs.Prelude.{nat_lt, option_map}
use Rattle.std.proofs.Common.{refl, sym, ap, ◌∙◌, append-nil, Ordering}
use Rattle.std.proofs.Math.Bool.{and-false}
use Rattle.std.proofs.lemmas.Bool.{or_right}
use Rattle.std.specs.Cmp.{IsTotalOrder}
use Rattle.std.specs.List.{list_any}
use Rattle.std.specs.Option.{option_and_then, option_map_or}
use Rattle.std.specs.Ordering.{eq_by_cmp}
use Rattle.std.specs.FinMap.{FinMap, IsAntisymmetric, empty, entries, entries-insert, get, get-empty, get-insert, insert, same_map}
use Rattle.std.specs.FinMap.Entries.{put}
use Rattle.keyed.specs.Table.{at_slot, flat, row_at}
use Rattle.keyed.specs.Over.{over}
use Rattle.keyed.proofs.Over.{any_both, over-empty, over-put}
use Rattle.ns_types.specs.declared.allocation.Allocation.{Allocation}
use Rattle.ns_types.specs.declared.allocation.DesiredStatus.{DesiredStatus}
use Rattle.ns_types.specs.declared.evaluation.Evaluation.{Evaluation}
use Rattle.ns_types.specs.declared.node.Class.{Class}
use Rattle.ns_types.specs.declared.node.Node.{Node}
use Rattle.ns_types.specs.declared.records.Namespace.{Namespace}
use Rattle.ns_types.specs.Settling.Making.{make_in, put_tenant, with_desired, with_evaluation}
use Rattle.ns_types.specs.Settling.Same.{same_allocation}
use Rattle.ns_types.specs.Settling.Settle.{changes_allocation, is_changed, settle}
use Rattle.ns_types.specs.State.Names.{ByNumber, Key, Name, has_key, name_cmp, same_name}
use Rattle.ns_types.specs.State.Rows.{World, Tenant, class_of, evaluation_at, is_free, is_live, is_run, node_at}
use Rattle.ns_types.specs.State.Tables.{map_rows}
use Rattle.ns_types.specs.Steps.{greatest, is_past_bound, is_tenant_past_bound}
use Rattle.ns_types.specs.Wire.Words.{desired_text}
use Rattle.ns_types.specs.Working.Queue.{is_busy, queue}
use Rattle.ns_types.proofs.Lists.{any_alike, each, filter_all, left_none, not_both, right_none}
use Rattle.ns_types.proofs.Named.{first_of_both, names, numbers, one_name, one_number}
use Rattle.ns_types.proofs.TableRows.{entries_empty, get_other}
use Rattle.ns_types.proofs.Tables.{get-map_rows, map_rows_idle, none_of_any, tied}
use Rattle.ns_change.specs.declared.change.Change.{Change}
use Rattle.ns_change.specs.declared.change.TenantChange.{TenantChange}
use Rattle.ns_change.specs.Changed.{changed, changed_list, changed_pool, changed_quota, changed_tenant, perhaps, put_allocation}
use Rattle.ns_change.proofs.Nothing.{nothing, list_stays}
use Rattle.ns_change.proofs.Opening.{row_set}
use Rattle.ns_release.specs.Released.{does_wake}
use Rattle.ns_counters.specs.Bounds.{is_at_bound, passes_in, places_pass, quota_passes, room_passes, shows_awake}
use Rattle.ns_counters.specs.Bounds.{tenant_passes, touches_asleep, waking_passes}
use Rattle.ns_counters.specs.Given.{given_limits_pass, given_waking_passes}
use Rattle.ns_counters.proofs.Each.{waking_each}
use Rattle.ns_release.specs.Released.{ended_in, ended_of, ended_one, ended_rows, in_pool, is_woken, quota_left, quota_relimited, released_quotas}
use Rattle.ns_release.specs.Released.{released_rooms}
use Rattle.ns_release.specs.Released.{releases_wake_at, room_left, rooms_left, rooms_of_pool}
use Rattle.ns_counters.specs.Given.{given_room_passes}
use Rattle.ns_counters.proofs.Indexes.{past_bound_is}
use Rattle.ns_release.proofs.Together.{wakes_by_quotas}
use Rattle.ns_jobs.specs.Counted.{passes_bound}
use Rattle.ns_jobs.specs.Ending.{ending_passes}

module _ {K X : Type 0} {R : K → K → Ordering} (o : IsTotalOrder R) (same : IsAntisymmetric R) where
  one_entry : (k : K) (x : X) → entries (insert (empty {X = X} {R = R}) k x) ≡ (k, x) ∷ []
  one_entry k x = entries-insert o empty k x ∙ ap (put R k x) (entries_empty o same)

  over-one : (m : FinMap R X) (k : K) (x : X) → over m (insert empty k (Some x)) ≡ insert m k x
  over-one m k x = over-put o same m empty k x ∙ ap (λ m. insert m k x) (over-empty o same m)

  unchanged_rows : {C : Type 0} (f : X → C → X) (m : FinMap R X) → map_rows (λ k x. perhaps f (row_at (empty {X = Option C} {R = R}) k) x) m ≡ m
  unchanged_rows f m = map_rows_idle o same _ m (λ k x at. ap (λ r. perhaps f (flat r) x) (get-empty R k))

-- ---- whom releases wake past the index of its namespace

module _ (w : World) where
  none_waking : list_any (given_waking_passes w [] []) w.blocked ≡ false
  none_waking = any_alike (given_waking_passes w [] []) (λ _. false) w.blocked (each _ (λ key. ap (λ b. option_map_or
      (λ t. is_at_bound t.index && (b && shows_awake t key.1 (evaluation_at w key))) (get w.tenants key.0) false) (wakes_by_quotas w [] key) ∙
      by key (get w.tenants key.0)) w.blocked) ∙ none w.blocked
    where
      none : (keys : List Key) → list_any (λ _. false) keys ≡ false
      none [] = refl
      none (key ∷ keys) = none keys

      by : (key : Key) (o : Option Tenant) → option_map_or (λ t. is_at_bound t.index && (false && shows_awake t key.1 (evaluation_at w key))) o false ≡ false
      by key None = refl
      by key (Some t) = and-false (is_at_bound t.index)

  turned : (a b : Bool) → (a || (b || false)) ≡ (b || a)
  turned true true = refl
  turned true false = refl
  turned false true = refl
  turned false false = refl

  rooms_pass : (pool : Name) (o : Option Node) →
      (list_any (given_waking_passes w (in_pool pool (room_left o)) []) w.blocked || list_any (room_passes w) (in_pool pool (room_left o)))
      ≡ option_map_or (λ node. is_free node && given_room_passes w (pool, class_of node)) o false
  rooms_pass pool None = ap (λ b. b || false) none_waking
  rooms_pass pool (Some node) = by (is_free node)
    where
      by : (b : Bool) → (list_any (given_waking_passes w (in_pool pool (if b then class_of node ∷ [] else [])) []) w.blocked
          || list_any (room_passes w) (in_pool pool (if b then class_of node ∷ [] else []))) ≡ (b && given_room_passes w (pool, class_of node))
      by true = turned (list_any (given_waking_passes w ((pool, class_of node) ∷ []) []) w.blocked) (room_passes w (pool, class_of node))
      by false = ap (λ b. b || false) none_waking

  limits_pass : (n : Namespace) → (list_any (given_waking_passes w [] (quota_left n)) w.blocked || list_any (quota_passes w) (quota_left n))
      ≡ option_map_or (given_limits_pass w) n.quota false
  limits_pass n = by n.quota
    where
      by : (o : Option Name) → (list_any (given_waking_passes w [] (option_map_or (λ quota. quota ∷ []) o [])) w.blocked
          || list_any (quota_passes w) (option_map_or (λ quota. quota ∷ []) o [])) ≡ option_map_or (given_limits_pass w) o false
      by None = ap (λ b. b || false) none_waking
      by (Some quota) = turned (list_any (given_waking_passes w [] (quota ∷ [])) w.blocked) (quota_passes w quota)

-- ---- the new evaluation's entry among those that are ready

abbrev added : World → Key → List Key
added w key = option_map_or (λ e. if is_busy w key.0 e.job then [] else key ∷ []) (evaluation_at w key) []

queue_adds : (w : World) (key : Key) → queue w key ≡ record w { ready = w.ready ++ added w key }
unfolding queue
queue_adds w key = by (evaluation_at w key)
  where
    same : w ≡ record w { ready = w.ready ++ [] }
    same = λ i. record w { ready = sym (append-nil w.ready) i }

    at : (b : Bool) → (if b then w else record w { ready = w.ready ++ key ∷ [] }) ≡ record w { ready = w.ready ++ (if b then [] else key ∷ []) }
    at true = same
    at false = refl

    by : (o : Option Evaluation) → option_map_or (λ e. if is_busy w key.0 e.job then w else record w { ready = w.ready ++ key ∷ [] }) o w
        ≡ record w { ready = w.ready ++ option_map_or (λ e. if is_busy w key.0 e.job then [] else key ∷ []) o [] }
    by None = same
    by (Some e) = at (is_busy w key.0 e.job)

-- ---- one allocation that gets another row, whatever is written of evaluations with it

module _ (w : World) (ns : Name) (t : Tenant) (at : get w.tenants ns ≡ Some t) (n : ℕ) (a b : Allocation) (there : get t.allocations n ≡ Some a)
    (shown : same_allocation a b ≡ false) (number : ℕ) (evaluations : ByNumber (Option Evaluation)) (keys : List Key) where
  abbrev rows : TenantChange
  rows = record {
    evaluation_number = number;
    allocation_number = t.allocation_number;
    jobs = empty;
    evaluations = evaluations;
    allocations = insert empty n (Some b);
    workers = empty;
  }

  abbrev after : Tenant
  after = record t { evaluation_number = number; evaluations = over t.evaluations evaluations; allocations = insert t.allocations n b }

  abbrev alone : Change
  alone = record nothing { tenants = insert empty ns (Some rows); ready = record { taken = []; added = keys } }

  -- ---- the world after it

  after_is : changed_tenant t rows ≡ after
  after_is = λ i. record after {
    jobs = over-empty names one_name t.jobs i;
    allocations = over-one numbers one_number t.allocations n b i;
    workers = over-empty numbers one_number t.workers i;
  }

  tenants_are : map_rows (λ q x. perhaps changed_tenant (row_at alone.tenants q) x) w.tenants ≡ insert w.tenants ns after
  tenants_are = same_map names one_name _ _ (λ q. get-map_rows names one_name _ w.tenants q ∙ by q (eq_by_cmp name_cmp q ns) refl
      ∙ sym (get-insert names w.tenants ns after q))
    where
      idle : (o : Option Tenant) → option_map (λ x. x) o ≡ o
      idle None = refl
      idle (Some x) = refl

      row : (q : Name) (b : Bool) → eq_by_cmp name_cmp q ns ≡ b → row_at alone.tenants q ≡ cond b (Some rows) None
      row q b is = row_set names one_name empty ns rows q ∙ (λ i. cond (is i) (Some rows) (flat (get-empty name_cmp q i)))

      by : (q : Name) (b : Bool) → eq_by_cmp name_cmp q ns ≡ b → option_map (λ x. perhaps changed_tenant (row_at alone.tenants q) x) (get w.tenants q)
          ≡ cond b (Some after) (get w.tenants q)
      by q true is = (λ i. option_map (λ x. perhaps changed_tenant (row q true is i) x) ((ap (get w.tenants) (tied one_name q ns is) ∙ at) i))
          ∙ ap Some after_is
      by q false is = ap (λ r. option_map (λ x. perhaps changed_tenant r x) (get w.tenants q)) (row q false is) ∙ idle (get w.tenants q)

  ready_is : changed_list w.ready alone.ready ≡ w.ready ++ keys
  ready_is = ap (λ ready. ready ++ keys) (filter_all (λ key. not (has_key [] key)) w.ready (each _ (λ _. refl) w.ready))

  alone_is : changed w alone ≡ record w { tenants = insert w.tenants ns after; ready = w.ready ++ keys }
  unfolding changed
  alone_is = λ i. record w {
    tenants = tenants_are i;
    pools = unchanged_rows names one_name changed_pool w.pools i;
    quotas = unchanged_rows names one_name changed_quota w.quotas i;
    ready = ready_is i;
    plans = list_stays w.plans i;
    blocked = list_stays w.blocked i;
  }

  -- ---- what it releases, where the allocation was live and is not any more

  abbrev ends : Bool
  ends = is_live a && not (is_live b)

  abbrev ended_if : Bool → List (Namespace × Allocation)
  ended_if ends = if ends then (t.namespace, a) ∷ [] else []

  abbrev rooms_if : Bool → List (Name × Class)
  rooms_if ends = if ends then in_pool a.pool (room_left (node_at w a.pool a.node)) else []

  abbrev quotas_if : Bool → List Name
  quotas_if ends = if ends then quota_left t.namespace else []

  ended : ended_rows w alone ≡ ended_if ends
  ended = ap (flat_map (λ (e : Name × Option TenantChange). ended_of w e.0 e.1)) (one_entry names one_name ns (Some rows)) ∙ append-nil _
      ∙ ap (λ o. option_map_or (λ t. ended_in t rows) o []) at
      ∙ ap (flat_map (λ (e : ℕ × Option Allocation). ended_one t e.0 e.1)) (one_entry numbers one_number n (Some b)) ∙ append-nil _
      ∙ ap (λ o. option_map_or (λ x. if is_live x && not (option_map_or is_live (Some b) false) then (t.namespace, x) ∷ [] else []) o []) there

  rooms_are : released_rooms w alone ≡ rooms_if ends
  rooms_are = (λ i. flat_map (rooms_of_pool w) (entries_empty names one_name i) ++ flat_map (rooms_left (changed w alone)) (ended i)) ∙ by ends
    where
      by : (ends : Bool) → flat_map (rooms_left (changed w alone)) (ended_if ends) ≡ rooms_if ends
      by true = append-nil _ ∙ ap (λ x. in_pool a.pool (room_left (node_at x a.pool a.node))) alone_is
      by false = refl

  quotas_are : released_quotas w alone ≡ quotas_if ends
  quotas_are = (λ i. flat_map (quota_relimited w) (entries_empty names one_name i) ++ flat_map (λ (e : Namespace × Allocation). quota_left e.0) (ended i))
      ∙ by ends
    where
      by : (ends : Bool) → flat_map (λ (e : Namespace × Allocation). quota_left e.0) (ended_if ends) ≡ quotas_if ends
      by true = append-nil _
      by false = refl

  -- ---- the counters

  module _ (within : is_past_bound w ≡ false) where
    abbrev own_passes : Bool
    own_passes = is_at_bound t.index || nat_lt greatest number

    given : nat_lt greatest t.allocation_number ≡ false
    unfolding is_past_bound
    given = right_none (nat_lt greatest t.index || nat_lt greatest t.evaluation_number) _
        (none_of_any one_name (λ _ t. is_tenant_past_bound t) w.tenants ns t (left_none _ _ (left_none _ _ within)) at)

    touched : touches_asleep w alone ns t rows ≡ true
    touched = or_right _ _ (ap (list_any (at_slot (λ (e : ℕ × Allocation). changes_allocation t e.0 e.1))) (one_entry numbers one_number n (Some b))
        ∙ ap (λ b. b || false) (ap (λ o. is_changed same_allocation o b) there ∙ ap not shown))

    own : list_any (tenant_passes w alone) (entries alone.tenants) ≡ own_passes
    own = ap (list_any (tenant_passes w alone)) (one_entry names one_name ns (Some rows))
        ∙ ap (λ o. option_map_or (passes_in w alone ns rows) o false || false) at
        ∙ by (nat_lt greatest number) (is_at_bound t.index) (nat_lt greatest t.allocation_number) (touches_asleep w alone ns t rows) given touched
      where
        by : (e i g s : Bool) → g ≡ false → s ≡ true → (((e || g) || (i && s)) || false) ≡ (i || e)
        by e i true s fails holds = not_both refl fails
        by e i false false fails holds = not_both holds refl
        by true true false true fails holds = refl
        by true false false true fails holds = refl
        by false true false true fails holds = refl
        by false false false true fails holds = refl

    no_place : list_any (places_pass w) (entries alone.pools) ≡ false
    no_place = ap (list_any (places_pass w)) (entries_empty names one_name)

    parts : is_past_bound (settle w (changed w alone)) ≡
        ((own_passes || list_any (waking_passes w alone) w.blocked) || (list_any (room_passes w) (rooms_if ends) || false)
        || list_any (quota_passes w) (quotas_if ends))
    parts = past_bound_is w alone within
        ∙ (λ i. (own i || list_any (waking_passes w alone) w.blocked) || (list_any (room_passes w) (rooms_are i) || no_place i)
        || list_any (quota_passes w) (quotas_are i))

    module _ (fits : own_passes ≡ false) where
      -- its own namespace's index does not pass, and no evaluation of another one is changed
      waking_is : (key : Key) → waking_passes w alone key ≡ given_waking_passes w (rooms_if ends) (quotas_if ends) key
      waking_is key = by (eq_by_cmp name_cmp key.0 ns) refl
        where
          mine : (s : Tenant → Bool) → key.0 ≡ ns → option_map_or (λ x. is_at_bound x.index && s x) (get w.tenants key.0) false ≡ false
          mine s is = ap (λ o. option_map_or (λ x. is_at_bound x.index && s x) o false) (ap (get w.tenants) is ∙ at)
              ∙ ap (λ b. b && s t) (left_none (is_at_bound t.index) _ fits)

          stays : eq_by_cmp name_cmp key.0 ns ≡ false → evaluation_at (changed w alone) key ≡ evaluation_at w key
          stays other = ap (λ x. evaluation_at x key) alone_is
              ∙ ap (option_and_then (λ (t : Tenant). get t.evaluations key.1)) (get_other names one_name w.tenants ns after key.0 other)

          by : (b : Bool) → eq_by_cmp name_cmp key.0 ns ≡ b → waking_passes w alone key ≡ given_waking_passes w (rooms_if ends) (quotas_if ends) key
          by true is = mine (λ x. does_wake w alone key && shows_awake x key.1 (evaluation_at (changed w alone) key)) (tied one_name key.0 ns is)
              ∙ sym (mine (λ x. releases_wake_at w (rooms_if ends) (quotas_if ends) key && shows_awake x key.1 (evaluation_at w key))
              (tied one_name key.0 ns is))
          by false other = λ i. option_map_or (λ x. is_at_bound x.index && (is_woken w alone.blocked (rooms_are i) (quotas_are i) key
              && shows_awake x key.1 (stays other i))) (get w.tenants key.0) false

      wakings_are : list_any (waking_passes w alone) w.blocked
          ≡ (list_any (given_waking_passes w (rooms_if ends) []) w.blocked || list_any (given_waking_passes w [] (quotas_if ends)) w.blocked)
      wakings_are = any_alike _ (λ key. given_waking_passes w (rooms_if ends) [] key || given_waking_passes w [] (quotas_if ends) key) w.blocked
          (each _ (λ key. waking_is key ∙ waking_each w (rooms_if ends) (quotas_if ends) key) w.blocked)
          ∙ any_both (given_waking_passes w (rooms_if ends) []) (given_waking_passes w [] (quotas_if ends)) w.blocked

      others_pass : is_past_bound (settle w (changed w alone)) ≡ (ends && ending_passes w t a)
      others_pass = parts
          ∙ (λ i. (fits i || wakings_are i) || (list_any (room_passes w) (rooms_if ends) || false) || list_any (quota_passes w) (quotas_if ends))
          ∙ grouped (list_any (given_waking_passes w (rooms_if ends) []) w.blocked) (list_any (given_waking_passes w [] (quotas_if ends)) w.blocked)
          (list_any (room_passes w) (rooms_if ends)) (list_any (quota_passes w) (quotas_if ends))
          ∙ by ends
        where
          grouped : (r q s l : Bool) → (((r || q) || (s || false)) || l) ≡ ((r || s) || (q || l))
          grouped true q s l = refl
          grouped false true true l = refl
          grouped false true false l = refl
          grouped false false true l = refl
          grouped false false false l = refl

          by : (ends : Bool) → ((list_any (given_waking_passes w (rooms_if ends) []) w.blocked || list_any (room_passes w) (rooms_if ends))
              || (list_any (given_waking_passes w [] (quotas_if ends)) w.blocked || list_any (quota_passes w) (quotas_if ends))) ≡ (ends && ending_passes w t a)
          by true = λ i. rooms_pass w a.pool (node_at w a.pool a.node) i || limits_pass w t.namespace i
          by false = λ i. (none_waking w i || false) || (none_waking w i || false)

    row_past : is_past_bound (settle w (changed w alone)) ≡ (own_passes || (ends && ending_passes w t a))
    row_past = by own_passes refl
      where
        by : (b : Bool) → own_passes ≡ b → is_past_bound (settle w (changed w alone)) ≡ (b || (ends && ending_passes w t a))
        by true past = parts ∙ ap (λ b. (b || list_any (waking_passes w alone) w.blocked) || (list_any (room_passes w) (rooms_if ends) || false)
            || list_any (quota_passes w) (quotas_if ends)) past
        by false fits = others_pass fits

module _ (w : World) (ns : Name) (t : Tenant) (at : get w.tenants ns ≡ Some t) (n : ℕ) (a b : Allocation) (there : get t.allocations n ≡ Some a)
    (shown : same_allocation a b ≡ false) (within : is_past_bound w ≡ false) where
  abbrev next : ℕ
  next = t.evaluation_number + 1

  -- ---- and nothing else is written

  given_before : nat_lt greatest t.evaluation_number ≡ false
  unfolding is_past_bound
  given_before = right_none (nat_lt greatest t.index) _ (left_none _ _
      (none_of_any one_name (λ _ t. is_tenant_past_bound t) w.tenants ns t (left_none _ _ (left_none _ _ within)) at))

  pub row_put_past : is_past_bound (settle w (put_tenant ns (put_allocation n b t) w)) ≡
      (is_at_bound t.index || ((is_live a && not (is_live b)) && ending_passes w t a))
  row_put_past = ap (λ x. is_past_bound (settle w x)) (sym left_is)
      ∙ row_past w ns t at n a b there shown t.evaluation_number empty [] within
      ∙ ap (λ c. c || ((is_live a && not (is_live b)) && ending_passes w t a)) (by (is_at_bound t.index) (nat_lt greatest t.evaluation_number) given_before)
    where
      left_is : changed w (alone w ns t at n a b there shown t.evaluation_number empty []) ≡ put_tenant ns (put_allocation n b t) w
      left_is = alone_is w ns t at n a b there shown t.evaluation_number empty [] ∙ (λ i. record w {
        tenants = insert w.tenants ns (record (put_allocation n b t) { evaluations = over-empty numbers one_number t.evaluations i });
        ready = append-nil w.ready i;
      })

      by : (i e : Bool) → e ≡ false → (i || e) ≡ i
      by true e is = refl
      by false e is = is

  -- ---- and an evaluation is made

  pub row_made_past : (e : Evaluation) → is_past_bound (settle w (make_in ns e w (put_allocation n b t))) ≡
      (passes_bound t || ((is_live a && not (is_live b)) && ending_passes w t a))
  row_made_past e = ap (λ x. is_past_bound (settle w x)) (sym left_is) ∙ row_past w ns t at n a b there shown next made ready within
    where
      made : ByNumber (Option Evaluation)
      made = insert empty next (Some e)

      put : World
      put = put_tenant ns (with_evaluation e (put_allocation n b t)) w

      ready : List Key
      ready = added put (ns, next)

      left_is : changed w (alone w ns t at n a b there shown next made ready) ≡ make_in ns e w (put_allocation n b t)
      left_is = alone_is w ns t at n a b there shown next made ready ∙ (λ i. record w {
        tenants = insert w.tenants ns (record (with_evaluation e (put_allocation n b t)) { evaluations = over-one numbers one_number t.evaluations next e i });
        ready = w.ready ++ ready;
      }) ∙ sym (queue_adds put (ns, next))

-- ---- a stop

abbrev stopped : Allocation → Allocation
stopped a = record a { desired = DesiredStatus.Stop }

-- it is shown otherwise than before
differs : (a : Allocation) → is_live a ≡ true → same_allocation a (stopped a) ≡ false
unfolding same_allocation
differs a live = by _ _ a.desired (first_of_both (is_run a.desired) _ live)
  where
    none : (p q : Bool) → ((p && false) && q) ≡ false
    none true q = refl
    none false q = refl

    by : (p q : Bool) (d : DesiredStatus) → is_run d ≡ true → ((p && same_name (desired_text d) (desired_text DesiredStatus.Stop)) && q) ≡ false
    by p q DesiredStatus.Run runs = none p q
    by p q DesiredStatus.Stop runs = not_both runs refl
    by p q DesiredStatus.Evict runs = not_both runs refl

pub stop_past : (w : World) (ns : Name) (t : Tenant) → get w.tenants ns ≡ Some t → (n : ℕ) (a : Allocation) → get t.allocations n ≡ Some a →
    is_live a ≡ true → (e : Evaluation) → is_past_bound w ≡ false →
    is_past_bound (settle w (make_in ns e w (with_desired n DesiredStatus.Stop t))) ≡ (passes_bound t || ending_passes w t a)
stop_past w ns t at n a there live e within =
    ap (λ o. is_past_bound (settle w (make_in ns e w (option_map_or (λ a. put_allocation n (stopped a) t) o t)))) there
    ∙ row_made_past w ns t at n a (stopped a) there (differs a live) within e
    ∙ ap (λ b. passes_bound t || ((b && true) && ending_passes w t a)) live

-- What a snapshot has of the slots of tables is what the model's has of the world that they hold.
use Rattle.std.specs.Prelude.{◌≡◌, ◌<◌, ◌≤◌, ◌+◌, ℕ, Bool, true, false, cond, List, [], ◌∷◌, ◌++◌, length}
use Rattle.std.specs.Prelude.{Option, Some, None, filter, flat_map, fold, is_some, map, option_map, IfOk, Result, Ok, Err}
use Rattle.std.proofs.Common.{refl, sym, ap, subst, append_assoc, ◌∙◌, arith, drop, get_or, take}
use Rattle.std.proofs.lemmas.List.{append-nil, length-append, length-map, take-append-drop}
use Rattle.std.proofs.lemmas.List.Filters.{length-filter_both}
use Rattle.std.proofs.lemmas.List.Sums.{fold-append, sum_by-cons, sum_by_more}
use Rattle.std.specs.FinMap.{contains_key, empty, entries, find, from_entries, get, get-empty, get-from_entries, get-insert, insert, keys, same_map, values}
use Rattle.std.specs.FinMap.{len, len-empty, len-entries, len-insert}
use Rattle.std.specs.Option.{option_and_then, option_map_or, option_or}
use Rattle.std.specs.Ordering.{eq_by_cmp, nat_cmp}
use Rattle.keyed.specs.Table.{flat, row_at, row_list, rows, with_row}
use Rattle.keyed.proofs.Tables.{entries-rows, get-rows}
use Rattle.ns_types.specs.declared.allocation.Allocation.{Allocation}
use Rattle.ns_types.specs.declared.job.Job.{Job}
use Rattle.ns_types.specs.declared.node.Node.{Node}
use Rattle.ns_types.specs.declared.snapshot.LiveAllocation.{LiveAllocation}
use Rattle.ns_types.specs.declared.snapshot.OwnAllocation.{OwnAllocation}
use Rattle.ns_types.specs.declared.snapshot.PoolNode.{PoolNode}
use Rattle.ns_types.specs.State.Lists.{by_number}
use Rattle.ns_types.specs.State.Names.{Key, Name, ByName, ByNumber}
use Rattle.ns_types.specs.State.Rows.{World, Tenant, allocation_at, is_live_on, node_at}
use Rattle.ns_types.specs.State.Tables.{table_of}
use Rattle.ns_types.specs.Working.Snapshot.{allocations_on, live_on, nodes_of, own_allocations, seen_live}
use Rattle.ns_types.proofs.Named.{first_of_both, names, numbers, one_name, one_number}
use Rattle.ns_types.proofs.TableRows.{entries_empty}
use Rattle.ns_types.proofs.Elements.{filter_map}
use Rattle.ns_types.proofs.Tables.{each_row, entries-retain, entries-table_of, get-table_of, tied}
use Rattle.ns_types.proofs.Tests.{same_Some}
use Rattle.ns_tables.specs.declared.tables.PoolRows.{PoolRows as StoredPool}
use Rattle.ns_tables.specs.declared.tables.Tables.{Tables}
use Rattle.ns_tables.specs.declared.tables.TenantRows.{TenantRows}
use Rattle.ns_tables.specs.World.{pool_of, tenant_of, world_of}
use Rattle.ns_tables.proofs.Under.{none_passing, passing_at}
use Rattle.ns_tables.proofs.World.{pool_at, tenant_at}
use Rattle.ns_tables.specs.Filing.{AreNumbersUnder, allocation_job, slots_at}
use Rattle.keyed.specs.Levels.{holds_key}
use Rattle.keyed.specs.declared.key_set.KeySet.{KeySet}
use Rattle.ns_live_index.specs.Listed.{found_at, keys_in}
use Rattle.ns_live_index.proofs.Listing.{allocations_are, no_allocations, shown}
use Rattle.ns_live_index.specs.declared.live.Live.{Live}
use Rattle.ns_live_index.specs.Index.{IsRight}
use Rattle.ns_live_index.specs.declared.shown.SeenNode.{SeenNode}
use Rattle.ns_live_index.specs.Shown.{node_seen}
use Rattle.ns_live_index.specs.Until.{is_past, is_until, last_number, live_after, live_until}
use Rattle.ns_live_index.proofs.Until.{chosen, last_past, live_all, live_splits, none_yet, table}
use Rattle.std.specs.declared.alloc.AllocError.{AllocError}
use Rattle.ns_broker.specs.declared.snapshot.placed.SeenRows.{SeenRows}
use Rattle.ns_broker.specs.Seen.{AreNodesOf, AreSeenOn, FitsKeys, FollowsBase, IsNodeOf, IsSeenNode, add_namespace, add_number, add_past, add_seen}
use Rattle.ns_broker.specs.Seen.{base_last, base_rows, key_count, keys_among, past_among, past_at, past_in, past_of}
use Rattle.ns_broker.specs.Seen.{is_own, node_at_slot, own_at, placed_after, seen_row}

-- what is answered, in another form
pub ok_as : {A E : Type 0} (r : Result A E) (x y : A) → x ≡ y → IfOk r (λ a. a ≡ x) → IfOk r (λ a. a ≡ y)
ok_as r x y same = subst (λ z. IfOk r (λ a. a ≡ z)) same

-- ---- lists that are shown slot by slot

module _ {K X Y : Type 0} (g : K × Option X → List Y) (p : K × X → Bool) (f : K × X → Y) (none : (k : K) → g (k, None) ≡ [])
    (some : (k : K) (x : X) → g (k, Some x) ≡ cond (p (k, x)) (f (k, x) ∷ []) []) where
  flat_shown : (slots : List (K × Option X)) → flat_map g slots ≡ map f (filter p (row_list slots))
  flat_shown [] = refl
  flat_shown ((k, None) ∷ slots) = λ i. none k i ++ flat_shown slots i
  flat_shown ((k, Some x) ∷ slots) = (λ i. some k x i ++ flat_shown slots i) ∙ by (p (k, x))
    where
      by : (b : Bool) → cond b (f (k, x) ∷ []) [] ++ map f (filter p (row_list slots))
          ≡ map f (cond b ((k, x) ∷ filter p (row_list slots)) (filter p (row_list slots)))
      by true = refl
      by false = refl

-- ---- the job's own allocations, by its numbers

module _ (x : TenantRows) (id : Name) (job : Option Job) where
  abbrev own_rows : List (ℕ × Allocation) → List OwnAllocation
  own_rows es = map (λ a. record { number = a.0; row = a.1 }) es

  pub own_is : (m : ByNumber (Option Unit)) → AreNumbersUnder allocation_job id x.allocations.slots (Some m) →
      flat_map (own_at id job) (slots_at x.allocations.slots (entries m)) ≡ own_allocations (tenant_of x) id job
  own_is m has = flat_shown (own_at id job) (λ a. is_own id job a.1) (λ a. record { number = a.0; row = a.1 }) (λ n. refl) (λ n a. refl)
      (slots_at x.allocations.slots (entries m))
      ∙ ap own_rows (passing_at allocation_job id x.allocations.slots (λ _ a. is_own id job a) (λ n a. first_of_both _ _) m has)

  pub own_none : AreNumbersUnder allocation_job id x.allocations.slots None → own_allocations (tenant_of x) id job ≡ []
  own_none has = ap own_rows (none_passing allocation_job id x.allocations.slots (λ _ a. is_own id job a) (λ n a. first_of_both _ _) has)

module _ (w : World) (pool : Name) where
  abbrev shown_node : Name × Node → PoolNode
  shown_node n = record { name = n.0; row = n.1; live = live_on w pool n.0 }

  nodes_shown : (slots : List (Name × Option Node)) → flat_map (node_at_slot w pool) slots ≡ map shown_node (row_list slots)
  nodes_shown [] = refl
  nodes_shown ((name, None) ∷ slots) = nodes_shown slots
  nodes_shown ((name, Some row) ∷ slots) = ap (λ ns. shown_node (name, row) ∷ ns) (nodes_shown slots)

pub nodes_are : (t : Tables) (pool : Name) (x : StoredPool) → row_at t.pools pool ≡ Some x →
    flat_map (node_at_slot (world_of t) pool) (entries x.nodes) ≡ nodes_of (world_of t) pool
nodes_are t pool x is = nodes_shown (world_of t) pool (entries x.nodes) ∙ ap (map (shown_node (world_of t) pool)) (sym (entries-rows x.nodes))
    ∙ sym (ap (λ p. option_map_or (λ p. map (shown_node (world_of t) pool) (entries p.nodes)) p []) (pool_at t pool ∙ ap (option_map pool_of) is))

pub no_pool : (t : Tables) (pool : Name) → row_at t.pools pool ≡ None → nodes_of (world_of t) pool ≡ []
no_pool t pool is = ap (λ p. option_map_or (λ p. map (shown_node (world_of t) pool) (entries p.nodes)) p []) (pool_at t pool ∙ ap (option_map pool_of) is)

pub are_nodes : (t : Tables) (pool : Name) (x : StoredPool) → row_at t.pools pool ≡ Some x → (slots : List (Name × Option Node)) → slots ≡ entries x.nodes →
    AreNodesOf (world_of t) pool slots
are_nodes t pool x at slots is = subst (AreNodesOf (world_of t) pool) (sym is) (each_row names one_name
    (λ name slot. (row : Node) → slot ≡ Some row → node_at (world_of t) pool name ≡ Some row) x.nodes
    (λ name slot stands row some. ap (option_and_then (λ p. get p.nodes name)) (pool_at t pool ∙ ap (option_map pool_of) at)
    ∙ get-rows names x.nodes name ∙ ap flat stands ∙ some))

-- a node that is shown is the one that is there
pub shown_is : (w : World) (pool name : Name) (row : Node) → node_at w pool name ≡ Some row → (shown : PoolNode) → node_seen w pool name ≡ Some shown →
    shown ≡ record { name = name; row = row; live = live_on w pool name }
shown_is w pool name row there shown seen = same_Some _ _ (sym seen
    ∙ ap (option_map (λ row. record { name = name; row = row; live = live_on w pool name })) there)

pub seen_there : (w : World) (pool name : Name) (row : Node) → node_at w pool name ≡ Some row → (shown : PoolNode) →
    shown ≡ record { name = name; row = row; live = live_on w pool name } → node_seen w pool name ≡ Some shown
seen_there w pool name row there shown is = ap (option_map (λ row. record { name = name; row = row; live = live_on w pool name })) there ∙ ap Some (sym is)

-- the loop that lists them
pub record IsListing (w : World) (pool : Name) (all left : List (Name × Option Node)) (nodes : List PoolNode) (live : Live) : Type 0 where
  pub listed : nodes ++ flat_map (node_at_slot w pool) left ≡ flat_map (node_at_slot w pool) all
  pub right : IsRight w live
  pub there : AreNodesOf w pool left

module _ (w : World) (pool : Name) (all left rest : List (Name × Option Node)) (slot : Name × Option Node) (is : left ≡ slot ∷ rest)
    (nodes : List PoolNode) (live : Live) (h : IsListing w pool all left nodes live) where
  pub node_next : IsNodeOf w pool slot
  node_next = (subst (AreNodesOf w pool) is h.there).0

  pub listed_next : (more : List PoolNode) (now : Live) → more ≡ nodes ++ node_at_slot w pool slot → IsRight w now → IsListing w pool all rest more now
  listed_next more now put right = record {
    listed = ap (λ nodes. nodes ++ flat_map (node_at_slot w pool) rest) put
        ∙ append_assoc nodes (node_at_slot w pool slot) (flat_map (node_at_slot w pool) rest)
        ∙ ap (λ slots. nodes ++ flat_map (node_at_slot w pool) slots) (sym is) ∙ h.listed;
    right = right;
    there = (subst (AreNodesOf w pool) is h.there).1;
  }

pub all_listed : (w : World) (pool : Name) (all : List (Name × Option Node)) (nodes : List PoolNode) (live : Live) (left : List (Name × Option Node)) →
    left ≡ [] → IsListing w pool all left nodes live → nodes ≡ flat_map (node_at_slot w pool) all
all_listed w pool all nodes live left is h = sym (append-nil nodes) ∙ ap (λ slots. nodes ++ flat_map (node_at_slot w pool) slots) (sym is) ∙ h.listed

-- ---- a table that is filled entry by entry, where the first of a key counts

module _ {X : Type 0} where
  or_else_none : (x : Option X) → option_or x None ≡ x
  or_else_none None = refl
  or_else_none (Some x) = refl

  filled : (m : ByNumber X) (es : List (ℕ × X)) (q : ℕ) → get (fold add_seen m es) q ≡ option_or (get m q) (find nat_cmp q es)
  filled m [] q = sym (or_else_none (get m q))
  filled m (e ∷ es) q = filled (add_seen m e) es q ∙ by (get m e.0) refl (eq_by_cmp nat_cmp q e.0) refl
    where
      by : (old : Option X) → get m e.0 ≡ old → (b : Bool) → eq_by_cmp nat_cmp q e.0 ≡ b →
          option_or (get (cond (is_some old) m (insert m e.0 e.1)) q) (find nat_cmp q es) ≡ option_or (get m q) (cond b (Some e.1) (find nat_cmp q es))
      by None is true same = ap (λ o. option_or o (find nat_cmp q es)) (get-insert numbers m e.0 e.1 q ∙ ap (λ b. cond b (Some e.1) (get m q)) same)
          ∙ sym (ap (λ o. option_or o (Some e.1)) (ap (get m) (tied one_number q e.0 same) ∙ is))
      by None is false other = ap (λ o. option_or o (find nat_cmp q es)) (get-insert numbers m e.0 e.1 q ∙ ap (λ b. cond b (Some e.1) (get m q)) other)
      by (Some x) is true same = ap (λ o. option_or o (find nat_cmp q es)) (ap (get m) (tied one_number q e.0 same) ∙ is)
          ∙ sym (ap (λ o. option_or o (Some e.1)) (ap (get m) (tied one_number q e.0 same) ∙ is))
      by (Some x) is false other = refl

  filled_is : (es : List (ℕ × X)) → fold add_seen empty es ≡ from_entries {R = nat_cmp} es
  filled_is es = same_map numbers one_number _ _ (λ q. filled empty es q ∙ ap (λ o. option_or o (find nat_cmp q es)) (get-empty nat_cmp q)
      ∙ sym (get-from_entries numbers es q))

module _ {X Y : Type 0} (f : X → Y) where
  abbrev mapped : ℕ × X → ℕ × Y
  mapped e = (e.0, f e.1)

  find_mapped : (es : List (ℕ × X)) (q : ℕ) → find nat_cmp q (map mapped es) ≡ option_map f (find nat_cmp q es)
  find_mapped [] q = refl
  find_mapped (e ∷ es) q = by (eq_by_cmp nat_cmp q e.0) (find_mapped es q)
    where
      by : (b : Bool) → find nat_cmp q (map mapped es) ≡ option_map f (find nat_cmp q es) →
          cond b (Some (f e.1)) (find nat_cmp q (map mapped es)) ≡ option_map f (cond b (Some e.1) (find nat_cmp q es))
      by true later = refl
      by false later = later

  table_mapped : (es : List (ℕ × X)) → table_of (λ _ x. f x) (from_entries {R = nat_cmp} es) ≡ from_entries (map mapped es)
  table_mapped es = same_map numbers one_number _ _ (λ q. get-table_of numbers one_number (λ _ x. f x) (from_entries es) q
      ∙ ap (option_map f) (get-from_entries numbers es q) ∙ sym (find_mapped es q) ∙ sym (get-from_entries numbers (map mapped es) q))

  map_values : (es : List (ℕ × X)) → map f (map (λ e. e.1) es) ≡ map (λ e. e.1) (map mapped es)
  map_values [] = refl
  map_values (e ∷ es) = ap (λ ys. f e.1 ∷ ys) (map_values es)

  entries_mapped : (es : List (ℕ × X)) → entries (from_entries {R = nat_cmp} (map mapped es)) ≡ map mapped (entries (from_entries {R = nat_cmp} es))
  entries_mapped es = ap entries (sym (table_mapped es)) ∙ entries-table_of (λ (_ : ℕ) x. f x) (from_entries es)

  last_mapped : (last : Option ℕ) (es : List (ℕ × X)) → last_number last (map mapped es) ≡ last_number last es
  last_mapped last [] = refl
  last_mapped last (e ∷ es) = last_mapped (Some e.0) es

  pub values_mapped : (es : List (ℕ × X)) → map f (values (from_entries {R = nat_cmp} es)) ≡ values (from_entries {R = nat_cmp} (map mapped es))
  values_mapped es = map_values (entries (from_entries es)) ∙ ap (map (λ e. e.1)) (sym (entries-table_of (λ (_ : ℕ) x. f x) (from_entries es)))
      ∙ ap values (table_mapped es)

-- ---- a node's live allocations

abbrev placed : Key × Allocation → ℕ × LiveAllocation
placed found = seen_row found.0.0 found.0.1 found.1

abbrev with_place : Name × (ℕ × Allocation) → ℕ × (Name × (ℕ × Allocation))
with_place a = (a.1.1.place, a)

placed_again : (found : List (Key × Allocation)) → map (mapped seen_live) (map with_place (map shown found)) ≡ map placed found
placed_again [] = refl
placed_again (x ∷ xs) = ap (λ l. placed x ∷ l) (placed_again xs)

-- what is left out is as if it were not there
past_filtered : {X : Type 0} (last : Option ℕ) (m : ByNumber X) (es : List (ℕ × X)) →
    fold (add_past last) m es ≡ fold add_seen m (filter (λ e. is_past last e.0) es)
past_filtered last m [] = refl
past_filtered {X = X} last m (e ∷ es) = by (is_past last e.0) (λ m. past_filtered last m es)
  where
    by : (b : Bool) → ((m : ByNumber X) →
        fold (add_past last) m es ≡ fold add_seen m (filter (λ e. is_past last e.0) es)) →
        fold (add_past last) (cond b (add_seen m e) m) es
        ≡ fold add_seen m (cond b (e ∷ filter (λ e. is_past last e.0) es) (filter (λ e. is_past last e.0) es))
    by true later = later (add_seen m e)
    by false later = later m

-- ---- slots without a row that is placed after the last one

abbrev one_if : Bool → ℕ
one_if b = cond b 1 0

module _ (last : Option ℕ) (allocations : ByNumber (Option Allocation)) where
  -- one slot more
  pub past_more : (slots : List (ℕ × Option Unit)) (i : ℕ) (slot : ℕ × Option Unit) → i < length slots → slot ≡ get_or slots i slot →
      past_in last allocations (take (i + 1) slots) ≡ past_in last allocations (take i slots) + past_at last allocations slot
  past_more slots i slot within is = sum_by_more (past_at last allocations) slots i slot within
      ∙ ap (λ s. past_in last allocations (take i slots) + past_at last allocations s) (sym is)

  passed_over : (ns : Name) (slots : List (ℕ × Option Unit)) (m : ByNumber LiveAllocation) → past_in last allocations slots ≡ 0 →
      fold (add_number last ns allocations) m slots ≡ m
  passed_over ns [] m none = refl
  passed_over ns ((n, None) ∷ slots) m none =
      let cons = sum_by-cons (past_at last allocations) (n, None) slots in
      let later : past_in last allocations slots ≡ 0 = omega (arith, cons, none) in
      passed_over ns slots m later
  passed_over ns ((n, Some key) ∷ slots) m none =
      let cons = sum_by-cons (past_at last allocations) (n, Some key) slots in
      let here : past_at last allocations (n, Some key) ≡ 0 = omega (arith, cons, none) in
      let later : past_in last allocations slots ≡ 0 = omega (arith, cons, none) in
      ap (λ seen. fold (add_number last ns allocations) seen slots) (by (row_at allocations n) here) ∙ passed_over ns slots m later
    where
      by : (r : Option Allocation) → option_map_or (λ a. one_if (is_past last a.place)) r 0 ≡ 0 →
          option_map_or (λ a. add_past last m (seen_row ns n a)) r m ≡ m
      by None none = refl
      by (Some a) none = is (is_past last a.place) none
        where
          is : (b : Bool) → one_if b ≡ 0 → cond b (add_seen m (seen_row ns n a)) m ≡ m
          is true none = absurd (omega (arith, none))
          is false none = refl

  -- those from a slot on, before which there is none
  pub from_start : (ns : Name) (slots : List (ℕ × Option Unit)) (start : ℕ) (m : ByNumber LiveAllocation) → past_in last allocations (take start slots) ≡ 0 →
      fold (add_number last ns allocations) m (drop start slots) ≡ fold (add_number last ns allocations) m slots
  from_start ns slots start m none = sym (ap (fold (add_number last ns allocations) m) (sym (take-append-drop start slots))
      ∙ fold-append (add_number last ns allocations) m (take start slots) (drop start slots)
      ∙ ap (λ seen. fold (add_number last ns allocations) seen (drop start slots)) (passed_over ns (take start slots) m none))

-- a list by number has at most as many
number_once : {X : Type 0} (number : X → ℕ) (xs : List X) → length (by_number number xs) ≤ length xs
number_once {X = X} number xs =
    let pairs = map (λ x. (number x, x)) xs in
    let values = length-map (entries (from_entries {R = nat_cmp} pairs)) (λ (e : ℕ × X). e.1) in
    let entries = len-entries (from_entries {R = nat_cmp} pairs) in
    let filled = ap len (filled_is pairs) in
    let short = filled_short empty pairs in
    let none = len-empty nat_cmp in
    let long = length-map {B = ℕ × X} xs (λ x. (number x, x)) in
    omega (arith, values, entries, filled, short, none, long)
  where
    filled_short : {X : Type 0} (m : ByNumber X) (es : List (ℕ × X)) → len (fold add_seen m es) ≤ len m + length es
    filled_short m [] = omega arith
    filled_short m (e ∷ es) =
        let later = filled_short (add_seen m e) es in
        let step = by (contains_key m e.0) refl in
        omega (arith, later, step)
      where
        by : (b : Bool) → contains_key m e.0 ≡ b → len (cond b m (insert m e.0 e.1)) ≤ len m + 1
        by true is = omega arith
        by false is = let put = len-insert numbers m e.0 e.1 ∙ ap (λ b. cond b (len m) (len m + 1)) is in omega (arith, put)

module _ (t : Tables) (last : Option ℕ) where
  abbrev look : Key → Option Allocation
  look = allocation_at (world_of t)

  looked : (ns : Name) (x : TenantRows) (n : ℕ) → row_at t.tenants ns ≡ Some x → look (ns, n) ≡ row_at x.allocations.slots n
  looked ns x n is = ap (option_and_then (λ (y : Tenant). get y.allocations n)) (tenant_at t ns ∙ ap (option_map tenant_of) is)
      ∙ get-rows numbers x.allocations.slots n

  abbrev keys_from : Name → List (ℕ × Option Unit) → List Key
  keys_from ns slots = map (λ n. (ns, n)) (map (λ (e : ℕ × Unit). e.0) (row_list slots))

  numbers_filled : (ns : Name) (x : TenantRows) → row_at t.tenants ns ≡ Some x
      → (slots : List (ℕ × Option Unit)) (rest : List Key) (m : ByNumber LiveAllocation) →
      fold (add_past last) (fold (add_number last ns x.allocations.slots) m slots) (map placed (found_at look rest))
      ≡ fold (add_past last) m (map placed (found_at look (keys_from ns slots ++ rest)))
  numbers_filled ns x is [] rest m = refl
  numbers_filled ns x is ((n, None) ∷ slots) rest m = numbers_filled ns x is slots rest m
  numbers_filled ns x is ((n, Some key) ∷ slots) rest m = numbers_filled ns x is slots rest (add_number last ns x.allocations.slots m (n, Some key))
      ∙ by (row_at x.allocations.slots n)
      ∙ ap (λ r. fold (add_past last) m (map placed (with_row (ns, n) r (found_at look (keys_from ns slots ++ rest)))))
      (sym (looked ns x n is))
    where
      by : (r : Option Allocation) →
          fold (add_past last) (option_map_or (λ a. add_past last m (seen_row ns n a)) r m)
          (map placed (found_at look (keys_from ns slots ++ rest)))
          ≡ fold (add_past last) m (map placed (with_row (ns, n) r (found_at look (keys_from ns slots ++ rest))))
      by None = refl
      by (Some a) = refl

  nowhere : (ns : Name) → row_at t.tenants ns ≡ None → (ks : List ℕ) (rest : List Key) → found_at look (map (λ n. (ns, n)) ks ++ rest) ≡ found_at look rest
  nowhere ns is [] rest = refl
  nowhere ns is (n ∷ ks) rest = ap (λ (r : Option Tenant). with_row (ns, n) (option_and_then (λ (y : Tenant). get y.allocations n) r)
      (found_at look (map (λ n. (ns, n)) ks ++ rest))) (tenant_at t ns ∙ ap (option_map tenant_of) is) ∙ nowhere ns is ks rest

  abbrev keys_of : Name × ByNumber (Option Unit) → List Key
  keys_of e = map (λ n. (e.0, n)) (keys (rows e.1))

  keys_counted : (slots : List (Name × Option (ByNumber (Option Unit)))) → keys_among slots ≡ length (flat_map keys_of (row_list slots))
  keys_counted [] = refl
  keys_counted ((ns, None) ∷ slots) =
      let cons = sum_by-cons key_count (ns, None) slots in
      let later = keys_counted slots in
      omega (arith, cons, later)
  keys_counted ((ns, Some held) ∷ slots) =
      let cons = sum_by-cons key_count (ns, Some held) slots in
      let later = keys_counted slots in
      let both = length-append (keys_of (ns, held)) (flat_map keys_of (row_list slots)) in
      let keys_are = length-map {B = Key} (keys (rows held)) (λ n. (ns, n)) in
      let numbers_are = length-map (entries (rows held)) (λ (e : ℕ × Unit). e.0) in
      let count = len-entries (rows held) in
      omega (arith, cons, later, both, keys_are, numbers_are, count)

  namespaces_filled : (slots : List (Name × Option (ByNumber (Option Unit)))) (m : ByNumber LiveAllocation) →
      fold (add_namespace last t.tenants) m slots ≡ fold (add_past last) m (map placed (found_at look (flat_map keys_of (row_list slots))))
  namespaces_filled [] m = refl
  namespaces_filled ((ns, None) ∷ slots) m = namespaces_filled slots m
  namespaces_filled ((ns, Some held) ∷ slots) m = namespaces_filled slots (add_namespace last t.tenants m (ns, Some held)) ∙ by (row_at t.tenants ns) refl
    where
      by : (r : Option TenantRows) → row_at t.tenants ns ≡ r →
          fold (add_past last) (option_map_or (λ x. fold (add_number last ns x.allocations.slots) m (entries held)) r m)
          (map placed (found_at look (flat_map keys_of (row_list slots))))
          ≡ fold (add_past last) m (map placed (found_at look (keys_of (ns, held) ++ flat_map keys_of (row_list slots))))
      by None is = ap (λ l. fold (add_past last) m (map placed l)) (sym (nowhere ns is (keys (rows held)) (flat_map keys_of (row_list slots))))
      by (Some x) is = numbers_filled ns x is (entries held) (flat_map keys_of (row_list slots)) m
          ∙ ap (λ es. fold (add_past last) m (map placed (found_at look
          (map (λ n. (ns, n)) (map (λ (e : ℕ × Unit). e.0) es) ++ flat_map keys_of (row_list slots)))))
          (sym (entries-rows held))

  -- ---- how many are past

  abbrev length_past : List (Key × Allocation) → ℕ
  length_past found = length (filter (λ f. is_past last f.1.place) found)

  abbrev count_past : List Key → ℕ
  count_past ks = length_past (found_at look ks)

  past_step : (key : Key) (r : Option Allocation) (rest : List (Key × Allocation)) →
      length_past (with_row key r rest) ≡ option_map_or (λ a. one_if (is_past last a.place)) r 0 + length_past rest
  past_step key None rest = omega arith
  past_step key (Some a) rest = by (is_past last a.place)
    where
      by : (b : Bool) → length (cond b ((key, a) ∷ filter (λ f. is_past last f.1.place) rest) (filter (λ f. is_past last f.1.place) rest))
          ≡ cond b 1 0 + length (filter (λ f. is_past last f.1.place) rest)
      by true = omega arith
      by false = omega arith

  numbers_past : (ns : Name) (x : TenantRows) → row_at t.tenants ns ≡ Some x → (slots : List (ℕ × Option Unit)) (rest : List Key) →
      count_past (keys_from ns slots ++ rest) ≡ past_in last x.allocations.slots slots + count_past rest
  numbers_past ns x is [] rest = omega arith
  numbers_past ns x is ((n, None) ∷ slots) rest =
      let cons = sum_by-cons (past_at last x.allocations.slots) (n, None) slots in
      let later = numbers_past ns x is slots rest in
      omega (arith, cons, later)
  numbers_past ns x is ((n, Some key) ∷ slots) rest =
      let step = past_step (ns, n) (look (ns, n)) (found_at look (keys_from ns slots ++ rest)) in
      let there = ap (λ (r : Option Allocation). option_map_or (λ a. one_if (is_past last a.place)) r 0) (looked ns x n is) in
      let cons = sum_by-cons (past_at last x.allocations.slots) (n, Some key) slots in
      let later = numbers_past ns x is slots rest in
      omega (arith, step, there, cons, later)

  namespaces_past : (slots : List (Name × Option (ByNumber (Option Unit)))) →
      past_among last t.tenants slots ≡ count_past (flat_map keys_of (row_list slots))
  namespaces_past [] = refl
  namespaces_past ((ns, None) ∷ slots) =
      let cons = sum_by-cons (past_of last t.tenants) (ns, None) slots in
      let later = namespaces_past slots in
      omega (arith, cons, later)
  namespaces_past ((ns, Some held) ∷ slots) = sum_by-cons (past_of last t.tenants) (ns, Some held) slots
      ∙ by (flat_map keys_of (row_list slots)) (row_at t.tenants ns) refl (namespaces_past slots)
    where
      by : (rest : List Key) (r : Option TenantRows) → row_at t.tenants ns ≡ r → past_among last t.tenants slots ≡ count_past rest →
          option_map_or (λ x. past_in last x.allocations.slots (entries held)) r 0 + past_among last t.tenants slots
          ≡ count_past (keys_of (ns, held) ++ rest)
      by rest None is later =
          let none = ap length_past (nowhere ns is (keys (rows held)) rest) in
          omega (arith, later, none)
      by rest (Some x) is later = ap (λ n. past_in last x.allocations.slots (entries held) + n) later ∙ sym (numbers_past ns x is (entries held) rest)
          ∙ ap (λ es. count_past (map (λ n. (ns, n)) (map (λ (e : ℕ × Unit). e.0) es) ++ rest)) (sym (entries-rows held))

  found_short : (ks : List Key) → length (found_at look ks) ≤ length ks
  found_short [] = omega arith
  found_short (k ∷ ks) = by (look k) (found_short ks)
    where
      by : (r : Option Allocation) → length (found_at look ks) ≤ length ks → length (with_row k r (found_at look ks)) ≤ length (k ∷ ks)
      by None le = omega (arith, le)
      by (Some a) le = omega (arith, le)

  module _ (pool node : Name) (held : KeySet)
      (right : (key : Key) → holds_key held key ≡ option_map_or (is_live_on pool node) (allocation_at (world_of t) key) false) where
    abbrev found : List (Key × Allocation)
    found = found_at look (keys_in held)

    -- those up to the place, and those past it, are no more than the keys
    no_more : past_among last t.tenants (entries held.numbers) + length (live_until (world_of t) pool node last) ≤ keys_among (entries held.numbers)
    unfolding live_until
    no_more =
        let past = namespaces_past (entries held.numbers)
        ∙ ap (λ es. count_past (flat_map keys_of es)) (sym (entries-rows held.numbers)) in
        let counted = keys_counted (entries held.numbers) ∙ ap (λ es. length (flat_map keys_of es)) (sym (entries-rows held.numbers)) in
        let both = length-filter_both (λ (f : Key × Allocation). is_past last f.1.place) (λ f. is_until last f.1.place) (λ f. refl) found in
        let short = found_short (keys_in held) in
        let until = ap (λ xs. length (filter (λ (a : Name × (ℕ × Allocation)). is_until last a.1.1.place) xs))
        (allocations_are (world_of t) pool node held right)
        ∙ ap length (filter_map (λ (a : Name × (ℕ × Allocation)). is_until last a.1.1.place) shown found)
        ∙ length-map (filter (λ f. is_until last f.1.place) found) shown in
        let few = number_once (λ (a : Name × (ℕ × Allocation)). a.1.1.place)
        (filter (λ a. is_until last a.1.1.place) (allocations_on (world_of t) pool node)) in
        let live = length-map (by_number (λ (a : Name × (ℕ × Allocation)). a.1.1.place)
        (filter (λ a. is_until last a.1.1.place) (allocations_on (world_of t) pool node))) seen_live in
        omega (arith, past, counted, both, short, until, few, live)

    -- the rows that are placed after the last one
    abbrev fresh : List (Name × (ℕ × Allocation))
    fresh = filter (λ a. is_past last a.1.1.place) (allocations_on (world_of t) pool node)

    fresh_is : map placed (filter (λ f. is_past last f.1.place) found) ≡ map (mapped seen_live) (map with_place fresh)
    fresh_is = sym (placed_again (filter (λ f. is_past last f.1.place) found))
        ∙ ap (λ xs. map (mapped seen_live) (map with_place xs)) (sym (filter_map (λ (a : Name × (ℕ × Allocation)). is_past last a.1.1.place) shown found)
        ∙ ap (filter (λ (a : Name × (ℕ × Allocation)). is_past last a.1.1.place)) (sym (allocations_are (world_of t) pool node held right)))

    after_is : placed_after last t.tenants held ≡ from_entries {R = nat_cmp} (map (mapped seen_live) (map with_place fresh))
    after_is = namespaces_filled (entries held.numbers) empty
        ∙ ap (λ es. fold (add_past last) empty (map placed (found_at look (flat_map keys_of es)))) (sym (entries-rows held.numbers))
        ∙ past_filtered last empty (map placed found) ∙ filled_is (filter (λ e. is_past last e.0) (map placed found))
        ∙ ap (from_entries {R = nat_cmp}) (filter_map (λ (e : ℕ × LiveAllocation). is_past last e.0) placed found ∙ fresh_is)

    values_after : values (placed_after last t.tenants held) ≡ live_after (world_of t) pool node last
    unfolding live_after
    values_after = ap values after_is ∙ sym (values_mapped seen_live (map with_place fresh))

    last_after : last_number last (entries (placed_after last t.tenants held))
        ≡ last_past (λ a. a.1.1.place) last (allocations_on (world_of t) pool node)
    last_after = ap (λ m. last_number last (entries m)) after_is
        ∙ ap (last_number last) (entries_mapped seen_live (map with_place fresh)) ∙ last_mapped seen_live last (entries (from_entries (map with_place fresh)))
        ∙ ap (λ m. last_number last (entries m)) (chosen (λ a. a.1.1.place) (is_past last) (allocations_on (world_of t) pool node))
        ∙ ap (last_number last) (entries-retain numbers one_number (table (λ a. a.1.1.place) (allocations_on (world_of t) pool node)) (is_past last))

module _ (t : Tables) (pool node : Name) where
  abbrev w : World
  w = world_of t

  base_is : (base : Option SeenNode) → ((seen : SeenNode) → base ≡ Some seen → seen.node.live ≡ live_until w pool node seen.last) →
      base_rows base ≡ live_until w pool node (base_last base)
  base_is None right = sym (none_yet w pool node)
  base_is (Some seen) right = right seen refl

  module _ (held : KeySet)
      (right : (key : Key) → holds_key held key ≡ option_map_or (is_live_on pool node) (allocation_at (world_of t) key) false) where
    pub fits : (base : Option SeenNode) → ((seen : SeenNode) → base ≡ Some seen → seen.node.live ≡ live_until w pool node seen.last) →
        FitsKeys t.tenants held base
    fits base bases =
        let rows = ap length (base_is base bases) in
        let few = no_more t (base_last base) pool node held right in
        omega (arith, rows, few)

    follow : (base : Option SeenNode) → ((seen : SeenNode) → base ≡ Some seen → seen.node.live ≡ live_until w pool node seen.last) →
        (rows : List LiveAllocation) (last : Option ℕ) → FollowsBase t.tenants held base rows last → AreSeenOn w pool node rows last
    follow base bases rows last h = record {
      rows = all;
      place = all ∙ sym (live_all w pool node (base_last base))
          ∙ ap (live_until w pool node) (sym (h.place ∙ last_after t (base_last base) pool node held right));
    }
      where
        all : rows ≡ live_on w pool node
        all = h.rows ∙ (λ i. base_is base bases i ++ values_after t (base_last base) pool node held right i) ∙ live_splits w pool node (base_last base)

    pub seen_on : (base : Option SeenNode) → ((seen : SeenNode) → base ≡ Some seen → seen.node.live ≡ live_until w pool node seen.last) →
        (result : Result SeenRows AllocError) → IfOk result (λ seen. FollowsBase t.tenants held base seen.rows seen.last) →
        IfOk result (λ seen. AreSeenOn w pool node seen.rows seen.last)
    seen_on base bases (Ok seen) h = follow base bases seen.rows seen.last h
    seen_on base bases (Err refused) h = h

  -- where nothing is live
  none_live : ((key : Key) → option_map_or (is_live_on pool node) (allocation_at w key) false ≡ false) → live_on w pool node ≡ []
  unfolding live_on
  none_live none = ap (λ xs. map seen_live (values (from_entries {R = nat_cmp} (map with_place xs)))) (no_allocations w pool node none)
      ∙ ap (λ (es : List (ℕ × (Name × (ℕ × Allocation)))). map seen_live (map (λ e. e.1) es)) (entries_empty numbers one_number)

  pub none_seen : ((key : Key) → option_map_or (is_live_on pool node) (allocation_at (world_of t) key) false ≡ false) →
      (rows : List LiveAllocation) → rows ≡ [] → AreSeenOn w pool node rows None
  none_seen none rows is = record { rows = is ∙ sym (none_live none); place = is ∙ sym (none_yet w pool node) }

-- what a table's slots are put behind
pub follows : (tenants : ByName (Option TenantRows)) (keys : KeySet) (base : Option SeenNode) (shown : List LiveAllocation) (last : Option ℕ)
    (fresh : ByNumber (Option LiveAllocation)) (slots : List (ℕ × Option LiveAllocation)) → shown ≡ base_rows base → last ≡ base_last base →
    rows fresh ≡ placed_after last tenants keys → slots ≡ entries fresh → (result : Result SeenRows AllocError) →
    IfOk result (λ seen. seen.rows ≡ shown ++ map (λ e. e.1) (row_list slots)) → IfOk result (λ seen. seen.last ≡ last_number last (row_list slots)) →
    IfOk result (λ seen. FollowsBase tenants keys base seen.rows seen.last)
follows tenants keys base shown last fresh slots is_base is_last is_fresh are result put ends = by result put ends
  where
    table : row_list slots ≡ entries (placed_after (base_last base) tenants keys)
    table = ap row_list are ∙ sym (entries-rows fresh) ∙ ap entries is_fresh ∙ ap (λ last. entries (placed_after last tenants keys)) is_last

    by : (result : Result SeenRows AllocError) → IfOk result (λ seen. seen.rows ≡ shown ++ map (λ e. e.1) (row_list slots)) →
        IfOk result (λ seen. seen.last ≡ last_number last (row_list slots)) → IfOk result (λ seen. FollowsBase tenants keys base seen.rows seen.last)
    by (Ok seen) put ends = record {
      rows = put ∙ (λ i. is_base i ++ map (λ (e : ℕ × LiveAllocation). e.1) (table i));
      place = ends ∙ (λ i. last_number (is_last i) (table i));
    }
    by (Err refused) put ends = put

-- a node that is made of its parts
pub node_made : (w : World) (pool name : Name) (row : Node) (copy : Name) (present : Node) (rows : List LiveAllocation) (last : Option ℕ) → copy ≡ name →
    present ≡ row → AreSeenOn w pool name rows last → (result : Result SeenNode AllocError) →
    IfOk result (λ seen. seen ≡ record { node = record { name = copy; row = present; live = rows }; last = last }) →
    IfOk result (λ seen. IsSeenNode w pool name row seen)
node_made w pool name row copy present rows last is_name is_row are (Ok seen) is = record {
  node = ap (λ (s : SeenNode). s.node) is ∙ (λ i. record { name = is_name i; row = is_row i; live = are.rows i });
  last = ap (λ (s : SeenNode). s.node.live) is ∙ are.place ∙ ap (λ (s : SeenNode). live_until w pool name s.last) (sym is);
}
node_made w pool name row copy present rows last is_name is_row are (Err refused) is = is

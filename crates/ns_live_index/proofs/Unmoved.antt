-- A node is seen the same as long as its row stays, and the rows that are live on it; and up to a place, as long as those do.
use Rattle.std.specs.Prelude.{◌≡◌, Bool, true, false, cond, not, ◌&&◌, ◌||◌, ◌≤◌, if◌then◌else◌, List, [], ◌∷◌, ◌++◌, Option, Some, None}
use Rattle.std.specs.Prelude.{ℕ, filter, flat_map, is_some, map, option_map}
use Rattle.std.proofs.Common.{refl, sym, ap, subst, ◌∙◌, arith}
use Rattle.std.proofs.lemmas.Bool.{lt-ltb, ltb-true}
use Rattle.std.proofs.Math.Bool.{and-false}
use Rattle.std.specs.FinMap.{entries, get}
use Rattle.std.specs.Option.{option_and_then, option_map_or}
use Rattle.keyed.specs.Levels.{holds_key}
use Rattle.keyed.specs.Table.{flat, row_at, with_row}
use Rattle.keyed.specs.declared.key_set.KeySet.{KeySet}
use Rattle.ns_types.specs.declared.allocation.Allocation.{Allocation}
use Rattle.ns_types.specs.declared.snapshot.PoolNode.{PoolNode}
use Rattle.ns_types.specs.State.Lists.{by_number}
use Rattle.ns_types.specs.State.Names.{Name, Key, ByNumber, has_key, same_key, same_name}
use Rattle.ns_types.specs.State.Rows.{World, Tenant, allocation_at, is_live, is_live_on, node_at}
use Rattle.ns_types.specs.State.Tables.{table_of}
use Rattle.ns_types.specs.Working.Snapshot.{live_on, seen_live}
use Rattle.ns_types.proofs.Elements.{filter_map}
use Rattle.ns_types.proofs.Lists.{each, filter-append}
use Rattle.ns_types.proofs.Named.{names, numbers, one_name, one_number, same_key_refl, same_name_is, first_of_both, second_of_both}
use Rattle.ns_types.proofs.Once.{key_is}
use Rattle.ns_types.proofs.Tables.{get-table_of}
use Rattle.ns_types.proofs.Tests.{is_yes, not_Some, same_Some}
use Rattle.ns_live_index.specs.declared.live.Live.{Live}
use Rattle.ns_live_index.specs.declared.shown.SeenNode.{SeenNode}
use Rattle.ns_live_index.specs.declared.shown.ShownNode.{ShownNode}
use Rattle.ns_live_index.specs.declared.shown.ShownNodes.{ShownNodes}
use Rattle.ns_live_index.specs.Index.{IsRight, KeepsKeys}
use Rattle.ns_live_index.specs.Index
use Rattle.ns_live_index.specs.Listed.{found_at, keys_in}
use Rattle.ns_live_index.specs.Naming.{AreKept, KeepsNames, quota_in, use_in}
use Rattle.ns_live_index.specs.Shown.{AreShown, ForgetsRow, HidesRow, KeepsShown, SameOn, SamePass, SameUntil, ShowsSame, ShowsThere, ShowsUnmoved}
use Rattle.ns_live_index.specs.Shown.{as_behind, base_at, base_in, if_seen, if_shown, kept_in, left_by, live_row, node_seen, shown_at, shown_in, shown_so}
use Rattle.ns_live_index.specs.Until.{is_live_until, is_past, is_until, live_until, row_if, row_until}
use Rattle.ns_live_index.proofs.Kept.{index_kept}
use Rattle.ns_live_index.proofs.Listing.{flat_alike, has_key-keys_in, passing, passing_are, shown}

-- ---- rows at keys

found_alike : {X : Type 0} (look again : Key → Option X) (ks : List Key) → ((key : Key) → has_key ks key ≡ true → again key ≡ look key) →
    found_at again ks ≡ found_at look ks
found_alike look again [] alike = refl
found_alike look again (k ∷ ks) alike = λ i. with_row k (alike k (ap (λ b. b || has_key ks k) (same_key_refl k)) i)
    (found_alike look again ks (λ q h. alike q (by q (same_key q k) h)) i)
  where
    by : (q : Key) (b : Bool) → has_key ks q ≡ true → (b || has_key ks q) ≡ true
    by q true h = refl
    by q false h = h

module _ (passes : Allocation → Bool) where
  is_there : (r : Option Allocation) → option_map_or passes r false ≡ is_some (row_if passes r)
  is_there None = refl
  is_there (Some row) = by (passes row)
    where
      by : (b : Bool) → b ≡ is_some (cond b (Some row) None)
      by true = refl
      by false = refl

  row_is : (r : Option Allocation) → option_map_or passes r false ≡ true → row_if passes r ≡ r
  row_is None e = refl
  row_is (Some row) e = ap (λ b. cond b (Some row) None) e

  no_row : (r : Option Allocation) → option_map_or passes r false ≡ false → row_if passes r ≡ None
  no_row None e = refl
  no_row (Some row) e = ap (λ b. cond b (Some row) None) e

  alike : (r s : Option Allocation) → row_if passes s ≡ row_if passes r → option_map_or passes s false ≡ option_map_or passes r false
  alike r s same = is_there s ∙ ap is_some same ∙ sym (is_there r)

module _ (pool node : Name) where
  pub is_live_there : (r : Option Allocation) → option_map_or (is_live_on pool node) r false ≡ is_some (live_row pool node r)
  is_live_there r = is_there (is_live_on pool node) r

  pub no_live_row : (r : Option Allocation) → option_map_or (is_live_on pool node) r false ≡ false → live_row pool node r ≡ None
  no_live_row r e = no_row (is_live_on pool node) r e

  pub live_alike : (r s : Option Allocation) → live_row pool node s ≡ live_row pool node r →
      option_map_or (is_live_on pool node) s false ≡ option_map_or (is_live_on pool node) r false
  live_alike r s same = alike (is_live_on pool node) r s same

-- ---- the keys of the rows that pass a test

abbrev mark_of : Bool → Option Unit
mark_of b = if b then Some tt else None

module _ (w : World) (passes : Allocation → Bool) where
  abbrev mark : Allocation → Option Unit
  mark row = mark_of (passes row)

  abbrev marks : Tenant → ByNumber (Option Unit)
  marks t = table_of (λ _ row. mark row) t.allocations

  abbrev keys_passing : KeySet
  keys_passing = record { numbers = table_of (λ _ t. Some (marks t)) w.tenants }

  keys_right : (key : Key) → holds_key keys_passing key ≡ option_map_or passes (allocation_at w key) false
  keys_right key = ap (λ (r : Option (Option (ByNumber (Option Unit)))). option_map_or (λ (s : ByNumber (Option Unit)). is_some (row_at s key.1))
      (flat r) false) (get-table_of names one_name (λ _ (t : Tenant). Some (marks t)) w.tenants key.0) ∙ by (get w.tenants key.0)
    where
      here : (b : Bool) → is_some (mark_of b) ≡ b
      here true = refl
      here false = refl

      at : (r : Option Allocation) → is_some (flat (option_map mark r)) ≡ option_map_or passes r false
      at None = refl
      at (Some row) = here (passes row)

      by : (r : Option Tenant) → option_map_or (λ (s : ByNumber (Option Unit)). is_some (row_at s key.1)) (flat (option_map (λ t. Some (marks t)) r)) false
          ≡ option_map_or passes (option_and_then (λ (t : Tenant). get t.allocations key.1) r) false
      by None = refl
      by (Some t) = ap (λ r. is_some (flat r)) (get-table_of numbers one_number (λ _ row. mark row) t.allocations key.1) ∙ at (get t.allocations key.1)

-- ---- the rows that pass

module _ (w w' : World) (passes : Allocation → Bool) (same : SamePass passes (allocation_at w) (allocation_at w')) where
  abbrev held : KeySet
  held = keys_passing w passes

  right : (key : Key) → holds_key held key ≡ option_map_or passes (allocation_at w key) false
  right = keys_right w passes

  right_too : (key : Key) → holds_key held key ≡ option_map_or passes (allocation_at w' key) false
  right_too key = right key ∙ sym (alike passes (allocation_at w key) (allocation_at w' key) (same key))

  row_stays : (key : Key) → has_key (keys_in held) key ≡ true → allocation_at w' key ≡ allocation_at w key
  row_stays key h =
      let is = sym (has_key-keys_in held key) ∙ h in
      sym (row_is passes (allocation_at w' key) (sym (right_too key) ∙ is)) ∙ same key
      ∙ row_is passes (allocation_at w key) (sym (right key) ∙ is)

  passing_stays : passing w' passes ≡ passing w passes
  passing_stays = passing_are w' passes held right_too
      ∙ ap (map shown) (found_alike (allocation_at w) (allocation_at w') (keys_in held) row_stays)
      ∙ sym (passing_are w passes held right)

-- a second test
filter_twice : {A : Type 0} (f g : A → Bool) (xs : List A) → filter g (filter f xs) ≡ filter (λ x. f x && g x) xs
filter_twice f g [] = refl
filter_twice f g (x ∷ xs) = by (f x) (filter_twice f g xs)
  where
    by : (b : Bool) → filter g (filter f xs) ≡ filter (λ x. f x && g x) xs →
        filter g (cond b (x ∷ filter f xs) (filter f xs)) ≡ cond (b && g x) (x ∷ filter (λ x. f x && g x) xs) (filter (λ x. f x && g x) xs)
    by true later = ap (λ ys. cond (g x) (x ∷ ys) ys) later
    by false later = later

filter_flat : {A B : Type 0} (p : B → Bool) (f : A → List B) (xs : List A) → filter p (flat_map f xs) ≡ flat_map (λ x. filter p (f x)) xs
filter_flat p f [] = refl
filter_flat p f (x ∷ xs) = filter-append p (f x) (flat_map f xs) ∙ ap (λ ys. filter p (f x) ++ ys) (filter_flat p f xs)

passing_twice : (w : World) (f g : Allocation → Bool) → filter (λ a. g a.1.1) (passing w f) ≡ passing w (λ row. f row && g row)
passing_twice w f g = filter_flat (λ (a : Name × (ℕ × Allocation)). g a.1.1) its (entries w.tenants)
    ∙ flat_alike (λ t. filter (λ (a : Name × (ℕ × Allocation)). g a.1.1) (its t)) again (entries w.tenants)
    (each (λ t. filter (λ (a : Name × (ℕ × Allocation)). g a.1.1) (its t) ≡ again t) (λ t. one t) (entries w.tenants))
  where
    its : Name × Tenant → List (Name × (ℕ × Allocation))
    its t = map (λ a. (t.0, a)) (filter (λ a. f a.1) (entries t.1.allocations))

    again : Name × Tenant → List (Name × (ℕ × Allocation))
    again t = map (λ a. (t.0, a)) (filter (λ a. f a.1 && g a.1) (entries t.1.allocations))

    one : (t : Name × Tenant) → filter (λ (a : Name × (ℕ × Allocation)). g a.1.1) (its t) ≡ again t
    one t = filter_map (λ (a : Name × (ℕ × Allocation)). g a.1.1) (λ a. (t.0, a)) (filter (λ a. f a.1) (entries t.1.allocations))
        ∙ ap (map (λ a. (t.0, a))) (filter_twice (λ (a : ℕ × Allocation). f a.1) (λ a. g a.1) (entries t.1.allocations))

-- ---- the live allocations of a node

module _ (w w' : World) (pool node : Name) where
  live_stays : SameOn pool node (allocation_at w) (allocation_at w') → live_on w' pool node ≡ live_on w pool node
  unfolding live_on
  live_stays same = ap (λ xs. map seen_live (by_number (λ a. a.1.1.place) xs)) (passing_stays w w' (is_live_on pool node) same)

  until_stays : (last : Option ℕ) → SameUntil pool node last (allocation_at w) (allocation_at w') →
      live_until w' pool node last ≡ live_until w pool node last
  unfolding live_until
  until_stays last same = ap (λ xs. map seen_live (by_number (λ a. a.1.1.place) xs))
      (passing_twice w' (is_live_on pool node) (λ row. is_until last row.place) ∙ passing_stays w w' (is_live_until pool node last) same
      ∙ sym (passing_twice w (is_live_on pool node) (λ row. is_until last row.place)))

  node_stays : SameOn pool node (allocation_at w) (allocation_at w') → node_at w' pool node ≡ node_at w pool node →
      node_seen w' pool node ≡ node_seen w pool node
  node_stays same row = λ i. option_map (λ row. record { name = node; row = row; live = live_stays same i }) (row i)

-- what is still shown is as in the world after a change, and what is kept is a base
pub shown_still : (w w' : World) (old new : Live) → IsRight w old →
    ((pool name : Name) (node : PoolNode) → shown_at new pool name ≡ Some node → (shown_at old pool name ≡ Some node)
    × (SameOn pool name (allocation_at w) (allocation_at w') × (node_at w' pool name ≡ node_at w pool name))) →
    ((pool name : Name) (seen : SeenNode) → base_at new pool name ≡ Some seen → (base_at old pool name ≡ Some seen)
    × SameUntil pool name seen.last (allocation_at w) (allocation_at w')) → AreShown w' new
shown_still w w' old new right still bases = record {
  nodes = λ pool name node is.
      let h = still pool name node is in
      node_stays w w' pool name h.1.0 h.1.1 ∙ right.shown.nodes pool name node h.0;
  bases = λ pool name seen is.
      let h = bases pool name seen is in
      right.shown.bases pool name seen h.0 ∙ sym (until_stays w w' pool name seen.last h.1);
}

-- nothing is kept
pub none_shown : (w : World) (live : Live) → ((pool name : Name) → base_at live pool name ≡ None) → AreShown w live
none_shown w live none = record {
  nodes = λ pool name node is. absurd (not_Some node (sym (unshown (kept_in live.shown pool name) (none pool name)) ∙ is));
  bases = λ pool name seen is. absurd (not_Some seen (sym (none pool name) ∙ is));
}
  where
    unshown : (kept : Option ShownNode) → if_seen kept ≡ None → if_shown kept ≡ None
    unshown None e = refl
    unshown (Some kept) e = absurd (not_Some kept.seen (sym e))

-- ---- what is shown by one change after another

pub unmoved_then : (a b c : Key → Option Allocation) (x y z : Live) → ShowsUnmoved a b x y → ShowsUnmoved b c y z → ShowsUnmoved a c x z
unmoved_then a b c x y z first later = record {
  nodes = λ pool name node is.
      let h = later.nodes pool name node is in
      let g = first.nodes pool name node h.0 in (g.0, λ key. h.1 key ∙ g.1 key);
  bases = λ pool name seen is.
      let h = later.bases pool name seen is in
      let g = first.bases pool name seen h.0 in (g.0, λ key. h.1 key ∙ g.1 key);
}

-- of the same rows
pub unmoved_as : (a b c : Key → Option Allocation) (x y : Live) → ((key : Key) → c key ≡ b key) → ShowsUnmoved a b x y → ShowsUnmoved a c x y
unmoved_as a b c x y same h = record {
  nodes = λ pool name node is.
      let g = h.nodes pool name node is in (g.0, λ key. ap (live_row pool name) (same key) ∙ g.1 key);
  bases = λ pool name seen is.
      let g = h.bases pool name seen is in (g.0, λ key. ap (row_until pool name seen.last) (same key) ∙ g.1 key);
}

pub unmoved_same : (a b : Key → Option Allocation) (x y : Live) → y ≡ x → ((key : Key) → b key ≡ a key) → ShowsUnmoved a b x y
unmoved_same a b x y stays same = record {
  nodes = λ pool name node is. (ap (λ l. shown_at l pool name) (sym stays) ∙ is, λ key. ap (live_row pool name) (same key));
  bases = λ pool name seen is. (ap (λ l. base_at l pool name) (sym stays) ∙ is, λ key. ap (row_until pool name seen.last) (same key));
}

-- ---- rows that are hidden

pub none_hidden : (shown : ShownNodes) → HidesRow None shown
none_hidden shown = record { nodes = λ pool name node is. refl; bases = λ pool name seen is. refl }

pub hides_of : (row : Option Allocation) (old new : ShownNodes) → ForgetsRow row old new → HidesRow row new
hides_of row old new h = record {
  nodes = λ pool name node is. (h.nodes pool name node is).1;
  bases = λ pool name seen is. (h.bases pool name seen is).1;
}

pub hides_still : (row other : Option Allocation) (old new : ShownNodes) → ForgetsRow other old new → HidesRow row old → HidesRow row new
hides_still row other old new less h = record {
  nodes = λ pool name node is. h.nodes pool name node (less.nodes pool name node is).0;
  bases = λ pool name seen is. h.bases pool name seen (less.bases pool name seen is).0;
}

pub forgets_hidden : (row : Option Allocation) (shown : ShownNodes) → HidesRow row shown → ForgetsRow row shown shown
forgets_hidden row shown h = record {
  nodes = λ pool name node is. (is, h.nodes pool name node is);
  bases = λ pool name seen is. (is, h.bases pool name seen is);
}

-- one that is not live is hidden everywhere
pub dead_hidden : (row : Allocation) (shown : ShownNodes) → is_live row ≡ false → HidesRow (Some row) shown
dead_hidden row shown dead = record {
  nodes = λ pool name node is. ap (λ b. if b && (same_name pool row.pool && same_name name row.node) then Some row else None) dead;
  bases = λ pool name seen is. ap (λ b. if (b && (same_name pool row.pool && same_name name row.node)) && is_until seen.last row.place then Some row else None)
      dead;
}

-- where it is live the node is behind, or forgotten
pub live_forgotten : (row : Allocation) (old new : ShownNodes) → is_live row ≡ true →
    ShowsThere row.pool row.node (left_by row.place (kept_in old row.pool row.node)) old new → ForgetsRow (Some row) old new
live_forgotten row old new lives there = record {
  nodes = λ p n node is. node_by p n node (same_name p row.pool && same_name n row.node) refl (sym (ap if_shown (there p n)) ∙ is);
  bases = λ p n seen is. seen_by p n seen (same_name p row.pool && same_name n row.node) refl (sym (ap if_seen (there p n)) ∙ is);
}
  where
    here : Option ShownNode
    here = kept_in old row.pool row.node

    same_there : (p n : Name) → (same_name p row.pool && same_name n row.node) ≡ true → kept_in old p n ≡ here
    same_there p n t = λ i. kept_in old (same_name_is p row.pool (first_of_both _ _ t) i)
        (same_name_is n row.node (second_of_both (same_name p row.pool) _ t) i)

    away : (p n : Name) → (same_name p row.pool && same_name n row.node) ≡ false → is_live_on p n row ≡ false
    away p n t = ap (λ b. is_live row && b) t ∙ and-false (is_live row)

    none_shown_by : (kept : Option ShownNode) → if_shown (left_by row.place kept) ≡ None
    none_shown_by None = refl
    none_shown_by (Some kept) = by (is_past kept.seen.last row.place)
      where
        by : (b : Bool) → if_shown (if b then Some (as_behind kept) else None) ≡ None
        by true = refl
        by false = refl

    still_seen : (p n : Name) (seen : SeenNode) (kept : Option ShownNode) → if_seen (left_by row.place kept) ≡ Some seen →
        (if_seen kept ≡ Some seen) × (row_until p n seen.last (Some row) ≡ None)
    still_seen p n seen None is = absurd (not_Some seen is)
    still_seen p n seen (Some kept) is = by (is_past kept.seen.last row.place) refl is
      where
        by : (b : Bool) → is_past kept.seen.last row.place ≡ b → if_seen (if b then Some (as_behind kept) else None) ≡ Some seen →
            (Some kept.seen ≡ Some seen) × (row_until p n seen.last (Some row) ≡ None)
        by true t is = (
          is,
          ap (λ (s : SeenNode). row_until p n s.last (Some row)) (sym (same_Some kept.seen seen is))
              ∙ ap (λ b. if is_live_on p n row && not b then Some row else None) t
              ∙ ap (λ b. if b then Some row else None) (and-false (is_live_on p n row)),
        )
        by false t is = absurd (not_Some seen is)

    node_by : (p n : Name) (node : PoolNode) (b : Bool) → (same_name p row.pool && same_name n row.node) ≡ b →
        if_shown (if b then left_by row.place here else kept_in old p n) ≡ Some node →
        (shown_in old p n ≡ Some node) × (live_row p n (Some row) ≡ None)
    node_by p n node true t is = absurd (not_Some node (sym (none_shown_by here) ∙ is))
    node_by p n node false t is = (is, ap (λ b. if b then Some row else None) (away p n t))

    seen_by : (p n : Name) (seen : SeenNode) (b : Bool) → (same_name p row.pool && same_name n row.node) ≡ b →
        if_seen (if b then left_by row.place here else kept_in old p n) ≡ Some seen →
        (base_in old p n ≡ Some seen) × (row_until p n seen.last (Some row) ≡ None)
    seen_by p n seen true t is =
        let h = still_seen p n seen here is in (ap if_seen (same_there p n t) ∙ h.0, h.1)
    seen_by p n seen false t is = (is, ap (λ b. if b && is_until seen.last row.place then Some row else None) (away p n t))

-- ---- a row beside another

gone_off : (b : Bool) (row : Allocation) → (if b then Some row else None) ≡ None → b ≡ false
gone_off true row e = cc
gone_off false row e = refl

module _ (last row : Allocation) (there : is_live_on row.pool row.node last ≡ true) (by_place : last.place ≤ row.place) where
  abbrev on : Allocation → Name → Name → Bool
  on a pool name = same_name pool a.pool && same_name name a.node

  same_on : (pool name : Name) → on row pool name ≡ on last pool name
  same_on pool name =
      let here = second_of_both (is_live last) _ there in
      let pools = same_name_is row.pool last.pool (first_of_both _ _ here) in
      let nodes = same_name_is row.node last.node (second_of_both (same_name row.pool last.pool) _ here) in
      λ i. same_name pool (pools i) && same_name name (nodes i)

  lives : is_live last ≡ true
  lives = first_of_both _ _ there

  -- a row on the node on which the last one is live, at no earlier place, is live on no other
  pub beside : (shown : ShownNodes) → HidesRow (Some last) shown → HidesRow (Some row) shown
  beside shown h = record {
    nodes = λ pool name node is.
        let off = ap (λ b. b && on last pool name) (sym lives) ∙ gone_off (is_live_on pool name last) last (h.nodes pool name node is) in
        ap (λ b. if is_live row && b then Some row else None) (same_on pool name ∙ off)
        ∙ ap (λ b. if b then Some row else None) (and-false (is_live row));
    bases = λ pool name seen is. by pool name seen.last (on last pool name) refl
        (ap (λ b. (b && on last pool name) && is_until seen.last last.place) (sym lives)
        ∙ gone_off (is_live_until pool name seen.last last) last (h.bases pool name seen is));
  }
    where
      later : (most : Option ℕ) → is_until most last.place ≡ false → is_until most row.place ≡ false
      later None e = e
      later (Some l) e = let under = ltb-true l last.place (is_yes _ e) in ap not (lt-ltb l row.place (omega arith))

      by : (pool name : Name) (most : Option ℕ) (b : Bool) → on last pool name ≡ b → (b && is_until most last.place) ≡ false →
          row_until pool name most (Some row) ≡ None
      by pool name most true t e = ap (λ b. if is_live_on pool name row && b then Some row else None) (later most e)
          ∙ ap (λ b. if b then Some row else None) (and-false (is_live_on pool name row))
      by pool name most false t e = ap (λ b. if (is_live row && b) && is_until most row.place then Some row else None) (same_on pool name ∙ t)
          ∙ ap (λ b. if b && is_until most row.place then Some row else None) (and-false (is_live row))

pub beside_last : (last : Option Allocation) (row : Allocation) → option_map_or (is_live_on row.pool row.node) last false ≡ true →
    ((its : Allocation) → last ≡ Some its → its.place ≤ row.place) → (shown : ShownNodes) → HidesRow last shown → HidesRow (Some row) shown
beside_last None row there by_place = cc
beside_last (Some last) row there by_place = beside last row there (by_place last refl)

-- ---- rows that are live on a node alike are so up to each place

until_of_live : (pool node : Name) (last : Option ℕ) (r : Option Allocation) → row_until pool node last r ≡ row_until pool node last (live_row pool node r)
until_of_live pool node last None = refl
until_of_live pool node last (Some row) = by (is_live_on pool node row) refl
  where
    by : (b : Bool) → is_live_on pool node row ≡ b
        → (if b && is_until last row.place then Some row else None) ≡ row_until pool node last (if b then Some row else None)
    by true e = ap (λ b. if b && is_until last row.place then Some row else None) (sym e)
    by false e = refl

pub same_until : (pool node : Name) (last : Option ℕ) (before after : Key → Option Allocation) → SameOn pool node before after →
    SameUntil pool node last before after
same_until pool node last before after same key = until_of_live pool node last (after key) ∙ ap (row_until pool node last) (same key)
    ∙ sym (until_of_live pool node last (before key))

-- ---- the row under a key is another

alike_at : (passes : Allocation → Bool) (row_of : Key → Option Allocation) (key : Key) (before after : Option Allocation) → row_of key ≡ before →
    row_if passes before ≡ None → row_if passes after ≡ None → SamePass passes row_of (Index.with_row key after row_of)
alike_at passes row_of key before after was went gone other = by (same_key other key) refl
  where
    by : (b : Bool) → same_key other key ≡ b → row_if passes (if b then after else row_of other) ≡ row_if passes (row_of other)
    by true t = gone ∙ sym (ap (row_if passes) (ap row_of (key_is other key t) ∙ was) ∙ went)
    by false t = refl

pub put_unmoved : (row_of : Key → Option Allocation) (key : Key) (before after : Option Allocation) (old made : Live) (mid : ShownNodes) (new : Live) →
    row_of key ≡ before → KeepsShown old made → ForgetsRow before made.shown mid → ForgetsRow after mid new.shown →
    ShowsUnmoved row_of (Index.with_row key after row_of) old new
put_unmoved row_of key before after old made mid new was kept first later = record {
  nodes = λ pool name node is.
      let h = later.nodes pool name node is in
      let g = first.nodes pool name node h.0 in
      (ap (λ s. shown_in s pool name) (sym kept.0) ∙ g.0, alike_at (is_live_on pool name) row_of key before after was g.1 h.1);
  bases = λ pool name seen is.
      let h = later.bases pool name seen is in
      let g = first.bases pool name seen h.0 in
      (ap (λ s. base_in s pool name) (sym kept.0) ∙ g.0, alike_at (is_live_until pool name seen.last) row_of key before after was g.1 h.1);
}

-- ---- what stays right

-- one node is shown as it is
pub shown_right : (w : World) (old new : Live) (pool name : Name) (seen : SeenNode) → KeepsKeys old new → KeepsNames old new →
    ShowsThere pool name (shown_so seen) old.shown new.shown → node_seen w pool name ≡ Some seen.node →
    seen.node.live ≡ live_until w pool name seen.last → IsRight w old → IsRight w new
shown_right w old new pool name seen keys names there is_seen is_base right = record {
  index = index_kept (allocation_at w) old new keys right.index;
  quotas = subst (AreKept (quota_in w.tenants) (use_in w.tenants)) (sym names) right.quotas;
  shown = record {
    nodes = λ p n other is. node_by p n other (same_name p pool && same_name n name) refl (sym (ap if_shown (there p n)) ∙ is);
    bases = λ p n other is. seen_by p n other (same_name p pool && same_name n name) refl (sym (ap if_seen (there p n)) ∙ is);
  };
}
  where
    node_by : (p n : Name) (other : PoolNode) (b : Bool) → (same_name p pool && same_name n name) ≡ b →
        if_shown (if b then shown_so seen else kept_in old.shown p n) ≡ Some other → node_seen w p n ≡ Some other
    node_by p n other true t is = (λ i. node_seen w (same_name_is p pool (first_of_both _ _ t) i)
        (same_name_is n name (second_of_both (same_name p pool) _ t) i)) ∙ is_seen ∙ is
    node_by p n other false t is = right.shown.nodes p n other is

    seen_by : (p n : Name) (other : SeenNode) (b : Bool) → (same_name p pool && same_name n name) ≡ b →
        if_seen (if b then shown_so seen else kept_in old.shown p n) ≡ Some other → other.node.live ≡ live_until w p n other.last
    seen_by p n other true t is =
        let same = same_Some seen other is in
        subst (λ (s : SeenNode). s.node.live ≡ live_until w p n s.last) same
        (is_base ∙ sym (λ i. live_until w (same_name_is p pool (first_of_both _ _ t) i)
        (same_name_is n name (second_of_both (same_name p pool) _ t) i) seen.last))
    seen_by p n other false t is = right.shown.bases p n other is

-- the same keys, and the same is kept
pub still_right : (w : World) (old new : Live) → KeepsKeys old new → KeepsNames old new → ShowsSame old.shown new.shown → IsRight w old → IsRight w new
still_right w old new keys names same right = record {
  index = index_kept (allocation_at w) old new keys right.index;
  quotas = subst (AreKept (quota_in w.tenants) (use_in w.tenants)) (sym names) right.quotas;
  shown = record {
    nodes = λ p n node is. right.shown.nodes p n node (sym (ap if_shown (same p n)) ∙ is);
    bases = λ p n seen is. right.shown.bases p n seen (sym (ap if_seen (same p n)) ∙ is);
  };
}

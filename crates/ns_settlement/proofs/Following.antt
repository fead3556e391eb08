-- The index of live allocations and the totals of quotas follow the changes of namespaces, one after another.
use Rattle.std.specs.Prelude.{◌≡◌, ℕ, false, if◌then◌else◌, T, IsTrue, List, [], ◌∷◌, Option, Some, None, option_map}
use Rattle.std.proofs.Common.{refl, sym, ap, ◌∙◌, subst}
use Rattle.std.specs.FinMap.{FinMap, entries, entries_sorted, get, get-entries}
use Rattle.std.specs.FinMap.Entries.{find, is_sorted}
use Rattle.std.specs.Option.{option_and_then, option_map_or, unwrap_or}
use Rattle.keyed.specs.Over.{over}
use Rattle.keyed.specs.Table.{flat, row_at, rows}
use Rattle.keyed.proofs.Tables.{get-rows}
use Rattle.ns_types.specs.declared.allocation.Allocation.{Allocation}
use Rattle.ns_types.specs.declared.event.Event.{Event}
use Rattle.ns_types.specs.State.Lists.{Each}
use Rattle.ns_types.specs.declared.resources.Resources.{Resources}
use Rattle.ns_types.specs.State.Names.{ByName, Name, Key, name_cmp, same_name}
use Rattle.ns_types.specs.State.Resources.{none}
use Rattle.ns_types.specs.State.Rows.{Tenant}
use Rattle.ns_types.proofs.Named.{names, numbers, one_name, same_name_refl}
use Rattle.ns_types.proofs.Tables.{each_row}
use Rattle.ns_types.proofs.Tests.{not_Some, same_Some}
use Rattle.ns_change.specs.declared.change.SettledTenant.{SettledTenant}
use Rattle.ns_change.specs.Changed.{changed_tenant, perhaps}
use Rattle.ns_change.specs.Settled.{publish, settled_tenant}
use Rattle.ns_settlement.specs.Indexed.{HasIndexRoom, IsRightFor, allocation_in}
use Rattle.ns_settlement.specs.Owners.{changed_owners, owners}
use Rattle.ns_settlement.proofs.Owned.{at_each, found_here, found_other, get-changed, get-owners, no_more, none_changed, rest_sorted}
use Rattle.ns_live_index.specs.declared.live.Live.{Live}
use Rattle.ns_live_index.specs.Index.{HasRoomForAll, Indexes, KeepsKeys, KeepsRoom, has_room, with_changes}
use Rattle.ns_live_index.specs.Naming.{AreKept, AreKeptFor, quota_in, use_in, with_use}
use Rattle.ns_live_index.specs.Shown.{KeepsShown, ShowsUnmoved}
use Rattle.ns_live_index.proofs.Changing.{changes_over}
use Rattle.ns_live_index.proofs.Kept.{kept_same, kept_then}
use Rattle.ns_live_index.proofs.Puts.{indexes_same}
use Rattle.ns_live_index.proofs.Unmoved.{unmoved_as, unmoved_same, unmoved_then}
use Rattle.ns_tables.specs.declared.tables.TenantRows.{TenantRows}
use Rattle.ns_tables.specs.Allocations.{live_use, rows_use}
use Rattle.ns_tables.specs.World.{tenant_of}

abbrev Slots : Type 0
Slots = List (Name × Option SettledTenant)

-- what holds of the keys of a namespace and of the others holds of each
at_keys : (P : Key → Type 0) (k : Name) → ((n : ℕ) → P (k, n)) → ((key : Key) → same_name key.0 k ≡ false → P key) → (key : Key) → P key
at_keys P k here others key = at_each (λ q. (n : ℕ) → P (q, n)) k here (λ q e n. others (q, n) e) key.0 key.1

-- events move no allocation
published_same : (events : Option (List Event)) (t : Tenant) → (perhaps publish events t).allocations ≡ t.allocations
published_same None t = refl
published_same (Some events) t = refl

-- no namespace gets another quota
quota_kept : (x : FinMap name_cmp (Option SettledTenant)) (m : ByName Tenant) (ns : Name) → quota_in (changed_owners settled_tenant x m) ns ≡ quota_in m ns
quota_kept x m ns = ap (option_and_then (λ t. t.namespace.quota)) (get-changed settled_tenant x m ns) ∙ by (row_at x ns) (get m ns)
  where
    published_the_same : (t : Tenant) (events : Option (List Event)) → (perhaps publish events t).namespace.quota ≡ t.namespace.quota
    published_the_same t None = refl
    published_the_same t (Some events) = refl

    by : (r : Option SettledTenant) (t : Option Tenant) →
        option_and_then (λ t. t.namespace.quota) (option_map (perhaps settled_tenant r) t) ≡ option_and_then (λ t. t.namespace.quota) t
    by r None = refl
    by None (Some t) = refl
    by (Some change) (Some t) = published_the_same (changed_tenant t change.rows) change.events

module _ (changes : FinMap name_cmp (Option SettledTenant)) where
  stand_all : (es : Slots) → es ≡ entries changes → Each (λ e. get changes e.0 ≡ Some e.1) es
  stand_all es is = subst (λ es. Each (λ e. get changes e.0 ≡ Some e.1) es) (sym is)
      (each_row names one_name (λ k slot. get changes k ≡ Some slot) changes (λ k slot at. at))

  found_in : (es : Slots) → es ≡ entries changes → (q : Name) → get changes q ≡ find name_cmp q es
  found_in es is q = get-entries changes q ∙ ap (find name_cmp q) (sym is)

  -- ---- room

  -- no key came or went, no load moved, and there is room for the changes of namespaces that es does not name
  pub record Reserving (before live : Live) (es : Slots) : Type 0 where
    pub same : KeepsKeys before live
    pub shown : KeepsShown before live
    pub stand : Each (λ e. get changes e.0 ≡ Some e.1) es
    pub room : (q : Name) (x : SettledTenant) → find name_cmp q es ≡ None → row_at changes q ≡ Some x → HasRoomForAll live q x.rows.allocations

  pub none_made : (live : Live) (es : Slots) → es ≡ entries changes → Reserving live live es
  none_made live es is = record {
    same = kept_same live;
    shown = (refl, refl);
    stand = stand_all es is;
    room = λ q x none at. absurd (not_Some x (sym (ap flat (found_in es is q ∙ none)) ∙ at));
  }

  pub all_made : (before live : Live) (es : Slots) → es ≡ [] → Reserving before live es → HasIndexRoom changes live
  all_made before live es is h q x at = h.room q x (ap (find name_cmp q) is) at

  module _ (k : Name) (slot : Option SettledTenant) (es rest : Slots) (is : es ≡ (k, slot) ∷ rest) (before live : Live) (h : Reserving before live es) where
    stand : Each (λ e. get changes e.0 ≡ Some e.1) ((k, slot) ∷ rest)
    stand = subst (λ es. Each (λ e. get changes e.0 ≡ Some e.1) es) is h.stand

    pub one_made : (now : Live) (x : SettledTenant) → slot ≡ Some x → KeepsKeys live now → KeepsShown live now → KeepsRoom live now →
        HasRoomForAll now k x.rows.allocations → Reserving before now rest
    one_made now x some same shown room made = record {
      same = kept_then before live now h.same same;
      shown = (shown.0 ∙ h.shown.0, shown.1 ∙ h.shown.1);
      stand = stand.1;
      room = at_each (λ q. (y : SettledTenant) → find name_cmp q rest ≡ None → row_at changes q ≡ Some y → HasRoomForAll now q y.rows.allocations) k
          (λ y _ at. subst (λ x. HasRoomForAll now k x.rows.allocations) (same_Some x y (sym (ap flat stand.0 ∙ some) ∙ at)) made)
          (λ q e y none at n row there lives.
          room row.pool row.node (q, n) (h.room q y (found_other k slot es rest is q e ∙ none) at n row there lives));
    }

    pub none_passed : (now : Live) → slot ≡ None → now ≡ live → Reserving before now rest
    none_passed now none stays = subst (λ live. Reserving before live rest) (sym stays) (record {
      same = h.same;
      shown = h.shown;
      stand = stand.1;
      room = at_each (λ q. (y : SettledTenant) → find name_cmp q rest ≡ None → row_at changes q ≡ Some y → HasRoomForAll live q y.rows.allocations) k
          (λ y _ at. absurd (not_Some y (sym (ap flat stand.0 ∙ none) ∙ at)))
          (λ q e y missing at. h.room q y (found_other k slot es rest is q e ∙ missing) at);
    })

  -- ---- keys

  module _ (stored : FinMap name_cmp (Option TenantRows)) where
    abbrev old : Key → Option Allocation
    old = allocation_in (owners tenant_of stored)

    abbrev new : Key → Option Allocation
    new = allocation_in (changed_owners settled_tenant changes (owners tenant_of stored))

    abbrev of : ℕ → Option Tenant → Option Allocation
    of n t = option_and_then (λ t. get t.allocations n) t

    new_at : (key : Key) → new key ≡ of key.1 (option_map (perhaps settled_tenant (row_at changes key.0)) (get (owners tenant_of stored) key.0))
    new_at key = ap (of key.1) (get-changed settled_tenant changes (owners tenant_of stored) key.0)

    unchanged_at : (key : Key) → row_at changes key.0 ≡ None → new key ≡ old key
    unchanged_at key none = new_at key
        ∙ ap (λ x. of key.1 (option_map (perhaps settled_tenant x) (get (owners tenant_of stored) key.0))) none
        ∙ ap (of key.1) (none_changed settled_tenant (get (owners tenant_of stored) key.0))

    nowhere_at : (key : Key) → row_at stored key.0 ≡ None → new key ≡ old key
    nowhere_at key none =
        let gone : get (owners tenant_of stored) key.0 ≡ None = get-owners tenant_of stored key.0 ∙ ap (option_map tenant_of) none in
        new_at key ∙ ap (λ t. of key.1 (option_map (perhaps settled_tenant (row_at changes key.0)) t)) gone ∙ sym (ap (of key.1) gone)

    tenant_at : (k : Name) (row : TenantRows) → row_at stored k ≡ Some row → get (owners tenant_of stored) k ≡ Some (tenant_of row)
    tenant_at k row at = get-owners tenant_of stored k ∙ ap (option_map tenant_of) at

    changed_at : (k : Name) (x : SettledTenant) (row : TenantRows) → row_at changes k ≡ Some x → row_at stored k ≡ Some row → (n : ℕ) →
        new (k, n) ≡ get (over (rows row.allocations.slots) x.rows.allocations) n
    changed_at k x row is at n = new_at (k, n)
        ∙ (λ i. of n (option_map (perhaps settled_tenant (is i)) (tenant_at k row at i)))
        ∙ ap (λ m. get m n) (published_same x.events (changed_tenant (tenant_of row) x.rows))

    old_at : (k : Name) (row : TenantRows) → row_at stored k ≡ Some row → (n : ℕ) → old (k, n) ≡ row_at row.allocations.slots n
    old_at k row at n = ap (of n) (tenant_at k row at) ∙ get-rows numbers row.allocations.slots n

    -- ---- what namespaces use

    abbrev pub quota_now : Name → Option Name
    quota_now = quota_in (owners tenant_of stored)

    abbrev old_use : Name → Resources
    old_use = use_in (owners tenant_of stored)

    abbrev new_use : Name → Resources
    new_use = use_in (changed_owners settled_tenant changes (owners tenant_of stored))

    abbrev use_of : Option Tenant → Resources
    use_of t = option_map_or (λ t. rows_use t.allocations) t none

    new_use_at : (ns : Name) → new_use ns ≡ use_of (option_map (perhaps settled_tenant (row_at changes ns)) (get (owners tenant_of stored) ns))
    new_use_at ns = ap use_of (get-changed settled_tenant changes (owners tenant_of stored) ns)

    unchanged_use : (ns : Name) → row_at changes ns ≡ None → new_use ns ≡ old_use ns
    unchanged_use ns missing = new_use_at ns
        ∙ ap (λ x. use_of (option_map (perhaps settled_tenant x) (get (owners tenant_of stored) ns))) missing
        ∙ ap use_of (none_changed settled_tenant (get (owners tenant_of stored) ns))

    nowhere_use : (ns : Name) → row_at stored ns ≡ None → new_use ns ≡ old_use ns
    nowhere_use ns missing =
        let gone : get (owners tenant_of stored) ns ≡ None = get-owners tenant_of stored ns ∙ ap (option_map tenant_of) missing in
        new_use_at ns ∙ ap (λ t. use_of (option_map (perhaps settled_tenant (row_at changes ns)) t)) gone ∙ sym (ap use_of gone)

    changed_use : (k : Name) (x : SettledTenant) (row : TenantRows) → row_at changes k ≡ Some x → row_at stored k ≡ Some row →
        new_use k ≡ rows_use (over (rows row.allocations.slots) x.rows.allocations)
    changed_use k x row is at = new_use_at k
        ∙ (λ i. use_of (option_map (perhaps settled_tenant (is i)) (tenant_at k row at i)))
        ∙ ap rows_use (published_same x.events (changed_tenant (tenant_of row) x.rows))

    -- the changes of namespaces that es names are still to come
    abbrev pub use_time : Option (Option SettledTenant) → Name → Resources
    use_time None ns = new_use ns
    use_time (Some slot) ns = old_use ns

    abbrev pub uses_now : Slots → Name → Resources
    uses_now es ns = use_time (find name_cmp ns es) ns

    abbrev pub in_time : Option (Option SettledTenant) → Key → Option Allocation
    in_time None key = new key
    in_time (Some slot) key = old key

    abbrev pub rows_now : Slots → Key → Option Allocation
    rows_now es key = in_time (find name_cmp key.0 es) key

    pub record Following (before live : Live) (es : Slots) : Type 0 where
      pub index : IsRightFor (owners tenant_of stored) before → Indexes (rows_now es) live
      pub shown : ShowsUnmoved old (rows_now es) before live
      pub quotas : AreKeptFor (owners tenant_of stored) before → AreKept quota_now (uses_now es) live.quotas
      pub sorted : T (is_sorted name_cmp es)
      pub stand : Each (λ e. get changes e.0 ≡ Some e.1) es
      pub room : (q : Name) (x : SettledTenant) → flat (find name_cmp q es) ≡ Some x → HasRoomForAll live q x.rows.allocations

    pub begun : (live : Live) (es : Slots) → es ≡ entries changes → HasIndexRoom changes live → Following live live es
    begun live es is room = record {
      index = λ right. indexes_same old (rows_now es) live right (λ key. by key (find name_cmp key.0 es) refl);
      shown = unmoved_same old (rows_now es) live live refl (λ key. by key (find name_cmp key.0 es) refl);
      quotas = λ right. subst (λ uses. AreKept quota_now uses live.quotas) (λ i ns. as_used ns (find name_cmp ns es) refl i) right;
      sorted = subst (λ es. T (is_sorted name_cmp es)) (sym is) (entries_sorted changes);
      stand = stand_all es is;
      room = λ q x at. room q x (ap flat (found_in es is q) ∙ at);
    }
      where
        by : (key : Key) (r : Option (Option SettledTenant)) → find name_cmp key.0 es ≡ r → in_time r key ≡ old key
        by key (Some slot) at = refl
        by key None at = unchanged_at key (ap flat (found_in es is key.0 ∙ at))

        as_used : (ns : Name) (r : Option (Option SettledTenant)) → find name_cmp ns es ≡ r → old_use ns ≡ use_time r ns
        as_used ns (Some slot) at = refl
        as_used ns None at = sym (unchanged_use ns (ap flat (found_in es is ns ∙ at)))

    pub all_kept : (before live : Live) (es : Slots) → es ≡ [] → Following before live es → AreKeptFor (owners tenant_of stored) before →
        AreKeptFor (changed_owners settled_tenant changes (owners tenant_of stored)) live
    all_kept before live es is h right = subst (λ quotas. AreKept quotas new_use live.quotas)
        (λ i ns. sym (quota_kept changes (owners tenant_of stored) ns) i) (subst (λ es. AreKept quota_now (uses_now es) live.quotas) is (h.quotas right))

    pub all_followed : (before live : Live) (es : Slots) → es ≡ [] → Following before live es → IsRightFor (owners tenant_of stored) before →
        IsRightFor (changed_owners settled_tenant changes (owners tenant_of stored)) live
    all_followed before live es is h right = subst (λ es. Indexes (rows_now es) live) is (h.index right)

    pub all_unmoved : (before live : Live) (es : Slots) → es ≡ [] → Following before live es → ShowsUnmoved old new before live
    all_unmoved before live es is h = subst (λ es. ShowsUnmoved old (rows_now es) before live) is h.shown

    module _ (k : Name) (slot : Option SettledTenant) (es rest : Slots) (is : es ≡ (k, slot) ∷ rest) (before live : Live) (h : Following before live es) where
      here : find name_cmp k es ≡ Some slot
      here = found_here k slot es rest is

      over_now : find name_cmp k rest ≡ None
      over_now = no_more k slot es rest is h.sorted

      standing : Each (λ e. get changes e.0 ≡ Some e.1) ((k, slot) ∷ rest)
      standing = subst (λ es. Each (λ e. get changes e.0 ≡ Some e.1) es) is h.stand

      later : (q : Name) (x : SettledTenant) → flat (find name_cmp q rest) ≡ Some x → (same_name q k ≡ false) × (flat (find name_cmp q es) ≡ Some x)
      later = at_each (λ q. (x : SettledTenant) → flat (find name_cmp q rest) ≡ Some x → (same_name q k ≡ false) × (flat (find name_cmp q es) ≡ Some x)) k
          (λ x at. absurd (not_Some x (sym (ap flat over_now) ∙ at)))
          (λ q e x at. (e, ap flat (found_other k slot es rest is q e) ∙ at))

      others : (key : Key) → same_name key.0 k ≡ false → rows_now rest key ≡ rows_now es key
      others key e = ap (λ r. in_time r key) (sym (found_other k slot es rest is key.0 e))

      other_uses : (ns : Name) → same_name ns k ≡ false → uses_now es ns ≡ uses_now rest ns
      other_uses ns e = ap (λ r. use_time r ns) (found_other k slot es rest is ns e)

      pub room_now : (x : SettledTenant) → slot ≡ Some x → HasRoomForAll live k x.rows.allocations
      room_now x some = h.room k x (ap flat here ∙ some)

      -- no row of the namespace changes
      stays : ((n : ℕ) → new (k, n) ≡ old (k, n)) → new_use k ≡ old_use k → Following before live rest
      stays alike used = record {
        index = λ right. indexes_same (rows_now es) (rows_now rest) live (h.index right) as_now;
        shown = unmoved_as old (rows_now es) (rows_now rest) before live as_now h.shown;
        quotas = λ right. subst (λ uses. AreKept quota_now uses live.quotas) (λ i ns. as_used ns i) (h.quotas right);
        sorted = rest_sorted k slot es rest is h.sorted;
        stand = standing.1;
        room = λ q x at. h.room q x (later q x at).1;
      }
        where
          as_used : (ns : Name) → uses_now es ns ≡ uses_now rest ns
          as_used = at_each (λ ns. uses_now es ns ≡ uses_now rest ns) k
              (ap (λ r. use_time r k) here ∙ sym used ∙ sym (ap (λ r. use_time r k) over_now)) other_uses

          as_now : (key : Key) → rows_now rest key ≡ rows_now es key
          as_now = at_keys (λ key. rows_now rest key ≡ rows_now es key) k
              (λ n. ap (λ r. in_time r (k, n)) over_now ∙ alike n ∙ sym (ap (λ r. in_time r (k, n)) here)) others

      pub nothing_changes : (now : Live) → slot ≡ None → now ≡ live → Following before now rest
      nothing_changes now none same = subst (λ live. Following before live rest) (sym same)
          (stays (λ n. unchanged_at (k, n) (ap flat standing.0 ∙ none)) (unchanged_use k (ap flat standing.0 ∙ none)))

      pub nothing_there : (now : Live) → row_at stored k ≡ None → now ≡ live → Following before now rest
      nothing_there now none same = subst (λ live. Following before live rest) (sym same) (stays (λ n. nowhere_at (k, n) none) (nowhere_use k none))

      module _ (now : Live) (x : SettledTenant) (row : TenantRows) (some : slot ≡ Some x) (at : row_at stored k ≡ Some row) where
        earlier : (n : ℕ) → rows_now es (k, n) ≡ row_at row.allocations.slots n
        earlier n = ap (λ r. in_time r (k, n)) here ∙ old_at k row at n

        as_changed : (key : Key) → rows_now rest key ≡ with_changes k x.rows.allocations (rows_now es) key
        as_changed = at_keys (λ key. rows_now rest key ≡ with_changes k x.rows.allocations (rows_now es) key) k
            (λ n. ap (λ r. in_time r (k, n)) over_now ∙ changed_at k x row (ap flat standing.0 ∙ some) at n
            ∙ sym (changes_over k row.allocations.slots x.rows.allocations (rows_now es) earlier n))
            (λ key e. others key e ∙ sym (ap (λ b. if b then unwrap_or (get x.rows.allocations key.1) (rows_now es key) else rows_now es key) e))

        abbrev used : Resources
        used = rows_use (over (rows row.allocations.slots) x.rows.allocations)

        -- what the namespace uses is moved with its rows
        use_followed : (quota : Option Name) → quota ≡ row.namespace.quota →
            ((quota_of : Name → Option Name) (use_of : Name → Resources) → AreKept quota_of use_of live.quotas → quota_of k ≡ quota →
            use_of k ≡ live_use row.allocations.slots → AreKept quota_of (with_use k used use_of) now.quotas) →
            AreKeptFor (owners tenant_of stored) before → AreKept quota_now (uses_now rest) now.quotas
        use_followed quota its put right = subst (λ uses. AreKept quota_now uses now.quotas) (λ i ns. as_used ns i)
            (put quota_now (uses_now es) (h.quotas right)
            (ap (option_and_then (λ (t : Tenant). t.namespace.quota)) (tenant_at k row at) ∙ sym its)
            (ap (λ r. use_time r k) here ∙ ap use_of (tenant_at k row at)))
          where
            as_used : (ns : Name) → with_use k used (uses_now es) ns ≡ uses_now rest ns
            as_used = at_each (λ ns. with_use k used (uses_now es) ns ≡ uses_now rest ns) k
                (ap (λ b. if b then used else uses_now es k) (same_name_refl k)
                ∙ sym (ap (λ r. use_time r k) over_now ∙ changed_use k x row (ap flat standing.0 ∙ some) at))
                (λ ns e. ap (λ b. if b then used else uses_now es ns) e ∙ other_uses ns e)

        pub one_followed :
            ((row_of : Key → Option Allocation) → Indexes row_of live → ((n : ℕ) → row_of (k, n) ≡ row_at row.allocations.slots n) →
            Indexes (with_changes k x.rows.allocations row_of) now) →
            ((row_of : Key → Option Allocation) → ((n : ℕ) → row_of (k, n) ≡ row_at row.allocations.slots n) →
            ShowsUnmoved row_of (with_changes k x.rows.allocations row_of) live now) → (quota : Option Name) → quota ≡ row.namespace.quota →
            ((quota_of : Name → Option Name) (use_of : Name → Resources) → AreKept quota_of use_of live.quotas → quota_of k ≡ quota →
            use_of k ≡ live_use row.allocations.slots → AreKept quota_of (with_use k used use_of) now.quotas) →
            ((pool node : Name) (key : Key) → same_name key.0 k ≡ false → IsTrue (has_room live pool node key) → IsTrue (has_room now pool node key)) →
            Following before now rest
        one_followed index shown quota its quotas room = record {
          index = λ right. indexes_same (with_changes k x.rows.allocations (rows_now es)) (rows_now rest) now
              (index (rows_now es) (h.index right) earlier) as_changed;
          shown = unmoved_as old (with_changes k x.rows.allocations (rows_now es)) (rows_now rest) before now as_changed
              (unmoved_then old (rows_now es) (with_changes k x.rows.allocations (rows_now es)) before live now h.shown (shown (rows_now es) earlier));
          quotas = use_followed quota its quotas;
          sorted = rest_sorted k slot es rest is h.sorted;
          stand = standing.1;
          room = λ q y found n r there lives.
              let both = later q y found in
              room r.pool r.node (q, n) both.0 (h.room q y both.1 n r there lives);
        }

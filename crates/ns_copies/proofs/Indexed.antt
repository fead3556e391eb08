-- The index of live allocations, made namespace by namespace.
use Rattle.std.specs.Prelude.{◌≡◌, ℕ, Bool, true, false, cond, T, List, [], ◌∷◌, Option, Some, None, is_some, option_map, unwrap_or, if◌then◌else◌}
use Rattle.std.proofs.Common.{refl, sym, ap, subst, ◌∙◌}
use Rattle.std.specs.FinMap.{empty, entries, get, get-empty, get-entries}
use Rattle.std.specs.FinMap.Entries.{find, is_sorted}
use Rattle.std.specs.Option.{option_and_then, option_map_or}
use Rattle.std.specs.Ordering.{nat_cmp}
use Rattle.keyed.specs.Table.{flat, row_at}
use Rattle.keyed.proofs.Ordered.{absent, below_tied}
use Rattle.keyed.proofs.Tables.{get-rows}
use Rattle.ns_types.specs.declared.allocation.Allocation.{Allocation}
use Rattle.ns_types.specs.declared.resources.Resources.{Resources}
use Rattle.ns_types.specs.State.Resources.{none}
use Rattle.ns_types.specs.State.Names.{ByNumber, Key, Name, name_cmp, same_name}
use Rattle.ns_types.specs.State.Rows.{allocation_at, is_live_on}
use Rattle.ns_types.specs.Working.Commit.{quota_named}
use Rattle.ns_types.proofs.Lists.{not_both}
use Rattle.ns_types.proofs.Named.{names, numbers, same_name_refl}
use Rattle.ns_types.proofs.Tables.{equal_by}
use Rattle.ns_types.proofs.Tests.{first, not_Some, second}
use Rattle.ns_live_index.specs.declared.live.Live.{Live}
use Rattle.ns_live_index.specs.Index.{Indexes, IsEmpty, IsRight, KeepsKeys, with_changes}
use Rattle.ns_live_index.specs.Naming.{AreKept, HoldsSame, KeepsNames, KeepsNodes, PutsQuota, is_quota, use_in}
use Rattle.ns_live_index.specs.declared.shown.SeenNode.{SeenNode}
use Rattle.ns_live_index.specs.Shown.{KeepsShown, ShowsUnmoved, base_at, base_in, live_row}
use Rattle.ns_live_index.proofs.Kept.{index_kept, pools_kept}
use Rattle.ns_live_index.proofs.PutLoads.{empty_indexes}
use Rattle.ns_live_index.proofs.Puts.{indexes_same}
use Rattle.ns_live_index.proofs.Totals.{are_still_kept, total_free}
use Rattle.ns_live_index.proofs.Unmoved.{none_shown}
use Rattle.ns_tables.specs.Allocations.{IsTotalOf, live_use, rows_use}
use Rattle.ns_types.specs.State.Resources.{IsTotal}
use Rattle.ns_tables.specs.declared.tables.Tables.{Tables}
use Rattle.ns_tables.specs.declared.tables.TenantRows.{TenantRows}
use Rattle.ns_tables.specs.World.{tenant_of, world_of}
use Rattle.ns_tables.proofs.World.{tenant_at}

abbrev Slots : Type 0
Slots = List (Name × Option TenantRows)

-- the allocation of a namespace's slot
abbrev row_in : Option TenantRows → ℕ → Option Allocation
row_in slot n = option_and_then (λ t. row_at t.allocations.slots n) slot

abbrev rows_in : Slots → Key → Option Allocation
rows_in slots key = row_in (flat (find name_cmp key.0 slots)) key.1

module _ {A : Type 0} (of : Option TenantRows → Option A) where
  -- of a namespace that is not among those
  abbrev but : Slots → Slots → Name → Option A
  but rest slots k = cond (is_some (find name_cmp k rest)) None (of (flat (find name_cmp k slots)))

-- the rows of the namespaces that are not among those
abbrev pub rows_but : Slots → Slots → Key → Option Allocation
rows_but rest slots key = cond (is_some (find name_cmp key.0 rest)) None (rows_in slots key)

-- the quota that a namespace's slot names
abbrev quota_in : Option TenantRows → Option Name
quota_in slot = option_and_then (λ t. t.namespace.quota) slot

abbrev quotas_but : Slots → Slots → Name → Option Name
quotas_but = but quota_in

-- what its live allocations take together
abbrev use_at : Option TenantRows → Resources
use_at slot = option_map_or (λ t. live_use t.allocations.slots) slot none

abbrev uses_in : Slots → Name → Resources
uses_in slots ns = use_at (flat (find name_cmp ns slots))

pub record IsIndexing (live : Live) (rest slots : Slots) : Type 0 where
  pub index : Indexes (rows_but rest slots) live
  pub shown : (pool name : Name) → base_at live pool name ≡ None
  pub quotas : AreKept (quotas_but rest slots) (uses_in slots) live.quotas
  pub sorted : T (is_sorted name_cmp rest)
  pub found : (k : Name) → is_some (find name_cmp k rest) ≡ true → find name_cmp k slots ≡ find name_cmp k rest

pub none_indexed : (live : Live) (slots : Slots) → T (is_sorted name_cmp slots) → IsEmpty live → IsIndexing live slots slots
none_indexed live slots sorted nothing = record {
  index = empty_indexes (rows_but slots slots) live (λ pool node key. nothing.keys pool node key ∙ by pool node key.1 (find name_cmp key.0 slots))
      nothing.loads (λ pool node key. dead pool node key.1 (find name_cmp key.0 slots));
  shown = nothing.shown;
  quotas = record {
    names = λ quota ns. nothing.names quota ns ∙ unnamed quota (find name_cmp ns slots);
    totals = λ quota. total_free (uses_in slots) live.quotas quota (nothing.names quota) (nothing.totals quota);
  };
  sorted = sorted;
  found = λ k is. refl;
}
  where
    unnamed : (quota : Name) (r : Option (Option TenantRows)) → false ≡ is_quota (cond (is_some r) None (quota_in (flat r))) quota
    unnamed quota None = refl
    unnamed quota (Some slot) = refl

    by : (pool node : Name) (n : ℕ) (r : Option (Option TenantRows)) → false
        ≡ option_map_or (is_live_on pool node) (cond (is_some r) None (row_in (flat r) n)) false
    by pool node n None = refl
    by pool node n (Some slot) = refl

    dead : (pool node : Name) (n : ℕ) (r : Option (Option TenantRows)) → live_row pool node (cond (is_some r) None (row_in (flat r) n)) ≡ None
    dead pool node n None = refl
    dead pool node n (Some slot) = refl

module _ (x : Name × Option TenantRows) (rest left slots : Slots) (is : rest ≡ x ∷ left) (old : Live) (h : IsIndexing old rest slots) where
  rises : T (is_sorted name_cmp (x ∷ left))
  rises = subst (λ l. T (is_sorted name_cmp l)) is h.sorted

  -- the namespace stands once
  gone : (k : Name) → same_name k x.0 ≡ true → find name_cmp k left ≡ None
  gone k e = (absent name_cmp names k left (below_tied name_cmp names k x.0 left (equal_by (name_cmp k x.0) e) (first _ _ rises))).0

  before : (k : Name) → find name_cmp k rest ≡ cond (same_name k x.0) (Some x.1) (find name_cmp k left)
  before k = ap (find name_cmp k) is

  found_later : (k : Name) → is_some (find name_cmp k left) ≡ true → find name_cmp k slots ≡ find name_cmp k left
  found_later k there = by (same_name k x.0) refl
    where
      by : (b : Bool) → same_name k x.0 ≡ b → find name_cmp k slots ≡ find name_cmp k left
      by true e = not_both there (ap is_some (gone k e))
      by false e =
          let here = before k ∙ ap (λ b. cond b (Some x.1) (find name_cmp k left)) e in
          h.found k (ap is_some here ∙ there) ∙ here

  module _ {A : Type 0} (of : Option TenantRows → Option A) where
    -- what holds of it is what the slot has
    moved_as : (k : Name) → cond (same_name k x.0) (of x.1) (but of rest slots k) ≡ but of left slots k
    moved_as k = by (same_name k x.0) refl
      where
        by : (b : Bool) → same_name k x.0 ≡ b → cond b (of x.1) (but of rest slots k) ≡ but of left slots k
        by true e =
            let here = before k ∙ ap (λ b. cond b (Some x.1) (find name_cmp k left)) e in
            sym (ap (λ r. cond (is_some r) None (of (flat (find name_cmp k slots)))) (gone k e)
            ∙ ap (λ r. of (flat r)) (h.found k (ap is_some here) ∙ here))
        by false e = ap (λ r. cond (is_some r) None (of (flat (find name_cmp k slots))))
            (before k ∙ ap (λ b. cond b (Some x.1) (find name_cmp k left)) e)

    -- the slots before have nothing of it
    unset : (k : Name) → same_name k x.0 ≡ true → but of rest slots k ≡ None
    unset k e = ap (λ r. cond (is_some r) None (of (flat (find name_cmp k slots))))
        (before k ∙ ap (λ b. cond b (Some x.1) (find name_cmp k left)) e)

    -- nor of a vacant slot
    still_as : of x.1 ≡ None → (k : Name) → but of rest slots k ≡ cond (same_name k x.0) (of x.1) (but of rest slots k)
    still_as none k = by (same_name k x.0) refl
      where
        by : (b : Bool) → same_name k x.0 ≡ b → but of rest slots k ≡ cond b (of x.1) (but of rest slots k)
        by true e = unset k e ∙ sym none
        by false e = refl

  -- its rows are those of the slot
  moved : (key : Key) → cond (same_name key.0 x.0) (row_in x.1 key.1) (rows_but rest slots key) ≡ rows_but left slots key
  moved key = moved_as (λ slot. row_in slot key.1) key.0

  own_before : (n : ℕ) → rows_but rest slots (x.0, n) ≡ None
  own_before n = unset (λ slot. row_in slot n) x.0 (same_name_refl x.0)

  pub unnamed_before : quotas_but rest slots x.0 ≡ None
  unnamed_before = unset quota_in x.0 (same_name_refl x.0)

  -- a vacant slot has no rows
  pub slot_passed : (new : Live) → x.1 ≡ None → new ≡ old → IsIndexing new left slots
  slot_passed new none same = subst (λ live. IsIndexing live left slots) (sym same) (record {
    index = indexes_same (rows_but rest slots) (rows_but left slots) old h.index
        (λ key. sym (still_as (λ slot. row_in slot key.1) (ap (λ slot. row_in slot key.1) none) key.0 ∙ moved key));
    shown = h.shown;
    quotas = subst (λ quotas. AreKept quotas (uses_in slots) old.quotas)
        (λ i ns. (still_as quota_in (ap quota_in none) ns ∙ moved_as quota_in ns) i) h.quotas;
    sorted = second _ _ rises;
    found = found_later;
  })

  module _ (tenant : TenantRows) (at : x.1 ≡ Some tenant) (none : ByNumber (Option Allocation)) (no_rows : none ≡ empty) where
    pub nothing_before : (n : ℕ) → rows_but rest slots (x.0, n) ≡ row_at none n
    nothing_before n = own_before n ∙ sym (ap (λ m. row_at m n) no_rows ∙ ap flat (get-empty nat_cmp n))

    put_there : (key : Key) → with_changes x.0 tenant.allocations.slots (rows_but rest slots) key ≡ rows_but left slots key
    put_there key = by (same_name key.0 x.0) refl ∙ moved key
      where
        own : same_name key.0 x.0 ≡ true → rows_but rest slots key ≡ None
        own e = ap (λ r. cond (is_some r) None (rows_in slots key)) (before key.0 ∙ ap (λ b. cond b (Some x.1) (find name_cmp key.0 left)) e)

        flatly : (r : Option (Option Allocation)) → unwrap_or r None ≡ flat r
        flatly None = refl
        flatly (Some r) = refl

        by : (b : Bool) → same_name key.0 x.0 ≡ b →
            (if b then unwrap_or (get tenant.allocations.slots key.1) (rows_but rest slots key) else rows_but rest slots key)
            ≡ cond b (row_in x.1 key.1) (rows_but rest slots key)
        by true e = ap (unwrap_or (get tenant.allocations.slots key.1)) (own e) ∙ flatly (get tenant.allocations.slots key.1)
            ∙ sym (ap (λ slot. row_in slot key.1) at)
        by false e = refl

    own_use : uses_in slots x.0 ≡ live_use tenant.allocations.slots
    own_use =
        let here = before x.0 ∙ ap (λ b. cond b (Some x.1) (find name_cmp x.0 left)) (same_name_refl x.0) in
        ap (λ r. use_at (flat r)) (h.found x.0 (ap is_some here) ∙ here) ∙ ap use_at at

    pub slot_indexed : (made new mid done live : Live) → KeepsKeys old made → KeepsShown old made →
        (Indexes (rows_but rest slots) made → Indexes (with_changes x.0 tenant.allocations.slots (rows_but rest slots)) new) →
        ShowsUnmoved (rows_but rest slots) (with_changes x.0 tenant.allocations.slots (rows_but rest slots)) made new → KeepsNames made new →
        KeepsNodes new mid → HoldsSame new.quotas mid.quotas → (after : Option Name) → after ≡ tenant.namespace.quota →
        (used : Resources) → IsTotalOf used tenant.allocations.slots →
        KeepsNodes mid done → PutsQuota x.0 None after used mid.quotas done.quotas → live ≡ done → IsIndexing live left slots
    slot_indexed made new mid done live keys kept index shown names room room_names after its used total put put_names same =
        subst (λ live. IsIndexing live left slots) (sym same) (record {
          index = indexes_same (with_changes x.0 tenant.allocations.slots (rows_but rest slots)) (rows_but left slots) done
              (index_kept (with_changes x.0 tenant.allocations.slots (rows_but rest slots)) new done (pools_kept new done (put.0 ∙ room.0))
              (index (index_kept (rows_but rest slots) old made keys h.index))) (λ key. sym (put_there key));
          shown = λ pool name. ap (λ shown. base_in shown pool name) (put.1 ∙ room.1) ∙ by pool name (base_at new pool name) refl;
          quotas = subst (λ quotas. AreKept quotas (uses_in slots) done.quotas)
              (λ i ns. (ap (λ r. cond (same_name ns x.0) r (quotas_but rest slots ns)) (its ∙ sym (ap quota_in at)) ∙ moved_as quota_in ns) i)
              (put_names (quotas_but rest slots) (uses_in slots) (are_still_kept new.quotas mid.quotas room_names (quotas_but rest slots) (uses_in slots)
              (subst (AreKept (quotas_but rest slots) (uses_in slots)) (sym (names ∙ kept.1)) h.quotas)) unnamed_before
              (subst (IsTotal used) (sym own_use) total));
          sorted = second _ _ rises;
          found = found_later;
        })
      where
        by : (pool name : Name) (r : Option SeenNode) → base_at new pool name ≡ r → base_at new pool name ≡ None
        by pool name None e = e
        by pool name (Some seen) e = absurd (not_Some seen (sym (h.shown pool name) ∙ sym (ap (λ s. base_in s pool name) kept.0)
            ∙ (shown.bases pool name seen e).0))

pub all_indexed : (t : Tables) (live : Live) (rest slots : Slots) → slots ≡ entries t.tenants → rest ≡ [] → IsIndexing live rest slots →
    IsRight (world_of t) live
all_indexed t live rest slots is nothing h = record {
  index = indexes_same (rows_but rest slots) (allocation_at (world_of t)) live h.index
      (λ key. sym (ap (λ l. rows_but l slots key) nothing ∙ ap (λ l. rows_in l key) is ∙ sym (stored key)));
  shown = none_shown (world_of t) live h.shown;
  quotas = subst (λ quotas. AreKept quotas (use_in (world_of t).tenants) live.quotas)
      (λ i ns. (ap (λ l. quotas_but l slots ns) nothing ∙ ap (λ l. quota_in (flat (find name_cmp ns l))) is ∙ sym (named ns)) i)
      (subst (λ uses. AreKept (quotas_but rest slots) uses live.quotas) (λ i ns. (ap (λ l. uses_in l ns) is ∙ sym (used ns)) i) h.quotas);
}
  where
    by : (n : ℕ) (r : Option TenantRows) → option_and_then (λ t. get t.allocations n) (option_map tenant_of r) ≡ row_in r n
    by n None = refl
    by n (Some tenant) = get-rows numbers tenant.allocations.slots n

    stored : (key : Key) → allocation_at (world_of t) key ≡ rows_in (entries t.tenants) key
    stored key = ap (option_and_then (λ t. get t.allocations key.1)) (tenant_at t key.0) ∙ by key.1 (row_at t.tenants key.0)
        ∙ ap (λ r. row_in (flat r) key.1) (get-entries t.tenants key.0)

    quota_seen : (r : Option TenantRows) → option_and_then (λ t. t.namespace.quota) (option_map tenant_of r) ≡ quota_in r
    quota_seen None = refl
    quota_seen (Some tenant) = refl

    named : (ns : Name) → quota_named (world_of t) ns ≡ quota_in (flat (find name_cmp ns (entries t.tenants)))
    named ns = ap (option_and_then (λ t. t.namespace.quota)) (tenant_at t ns) ∙ quota_seen (row_at t.tenants ns) ∙ ap (λ r. quota_in (flat r))
        (get-entries t.tenants ns)

    use_seen : (r : Option TenantRows) → option_map_or (λ t. rows_use t.allocations) (option_map tenant_of r) none ≡ use_at r
    use_seen None = refl
    use_seen (Some tenant) = refl

    used : (ns : Name) → use_in (world_of t).tenants ns ≡ uses_in (entries t.tenants) ns
    used ns = ap (λ r. option_map_or (λ t. rows_use t.allocations) r none) (tenant_at t ns) ∙ use_seen (row_at t.tenants ns)
        ∙ ap (λ r. use_at (flat r)) (get-entries t.tenants ns)

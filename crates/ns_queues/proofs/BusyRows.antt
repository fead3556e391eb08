-- Changed rows that are followed one after another.
use Rattle.std.specs.Prelude.{◌≡◌, ℕ, Bool, true, false, cond, ◌&&◌, IsTrue, T, List, [], ◌∷◌, Option, Some, None, is_some}
use Rattle.std.proofs.Common.{Ordering, refl, ap, sym, subst, ◌∙◌}
use Rattle.std.specs.Cmp.{IsTotalOrder, tied_itself}
use Rattle.std.specs.Ordering.{eq_by_cmp, is_eq, nat_cmp}
use Rattle.std.specs.FinMap.{IsAntisymmetric, entries, entries_sorted, get, get-entries}
use Rattle.std.specs.FinMap.Entries.{find, is_sorted}
use Rattle.keyed.specs.Table.{flat, row_at}
use Rattle.keyed.proofs.Levels.{not_true}
use Rattle.keyed.proofs.Ordered.{absent}
use Rattle.ns_change.specs.declared.change.Settled.{Settled}
use Rattle.ns_change.specs.declared.change.SettledTenant.{SettledTenant}
use Rattle.ns_queues.specs.Busy.{HasBusyRoom, HasRoomIn, Puts, PutsAll, busy_after, has_room, holds}
use Rattle.ns_queues.specs.declared.busy.BusyWorkers.{BusyWorkers}
use Rattle.ns_types.specs.State.Names.{ByName, ByNumber, Name, name_cmp, same_name, same_number}
use Rattle.ns_types.specs.Working.Worker.{Worker}
use Rattle.ns_types.proofs.Named.{names, numbers, one_name, one_number, same_name_refl}
use Rattle.ns_types.proofs.Tables.{tied}
use Rattle.ns_types.proofs.Tests.{first, not_Some, second}
use Rattle.ns_tables.specs.declared.tables.TenantRows.{TenantRows}

-- ---- an entry, and those after it

module _ {K X : Type 0} {R : K → K → Ordering} (o : IsTotalOrder R) (k : K) (x : X) (es rest : List (K × X)) (is : es ≡ (k, x) ∷ rest) where
  found_here : find R k es ≡ Some x
  found_here = ap (find R k) is ∙ ap (λ r. cond (is_eq r) (Some x) (find R k rest)) (tied_itself o k)

  found_other : (q : K) → eq_by_cmp R q k ≡ false → find R q es ≡ find R q rest
  found_other q e = ap (find R q) is ∙ ap (λ t. cond t (Some x) (find R q rest)) e

  module _ (rises : T (is_sorted R es)) where
    sorted : T (is_sorted R ((k, x) ∷ rest))
    sorted = subst (λ es. T (is_sorted R es)) is rises

    no_more : find R k rest ≡ None
    no_more = (absent R o k rest (first _ _ sorted)).0

    rest_sorted : T (is_sorted R rest)
    rest_sorted = second _ _ sorted

-- what holds at a key and at the others holds at each
at_each : {K : Type 0} {R : K → K → Ordering} → IsAntisymmetric R → (P : K → Type 0) (k : K) → P k → ((q : K) → eq_by_cmp R q k ≡ false → P q) →
    (q : K) → P q
at_each {R = R} same P k here others q = by (eq_by_cmp R q k) refl
  where
    by : (t : Bool) → eq_by_cmp R q k ≡ t → P q
    by true t = subst P (sym (tied same q k t)) here
    by false t = others q t

not_here : (a b : Bool) → b ≡ false → (a && b) ≡ false
not_here true b e = e
not_here false b e = refl

-- ---- the changed rows of a namespace

abbrev pub Rows : Type 0
Rows = List (ℕ × Option Worker)

module _ (ns : Name) (rows : ByNumber (Option Worker)) (old : BusyWorkers) where
  -- the rows of es are still to come
  pub record Putting (now : BusyWorkers) (es : Rows) : Type 0 where
    pub here : (n : ℕ) → busy_after (find nat_cmp n es) (holds now n ns) ≡ busy_after (get rows n) (holds old n ns)
    pub others : (n : ℕ) (q : Name) → same_name q ns ≡ false → holds now n q ≡ holds old n q
    pub sorted : T (is_sorted nat_cmp es)
    pub room : (n : ℕ) → IsTrue (is_some (flat (find nat_cmp n es))) → IsTrue (has_room now n ns)
    pub room_others : (n : ℕ) (q : Name) → same_name q ns ≡ false → IsTrue (has_room old n q) → IsTrue (has_room now n q)

  pub none_put : (es : Rows) → es ≡ entries rows → HasRoomIn ns rows old → Putting old es
  none_put es is room = record {
    here = λ n. ap (λ r. busy_after r (holds old n ns)) (found n);
    others = λ n q e. refl;
    sorted = subst (λ es. T (is_sorted nat_cmp es)) (sym is) (entries_sorted rows);
    room = λ n row. room n (subst (λ r. IsTrue (is_some (flat r))) (found n) row);
    room_others = λ n q e h. h;
  }
    where
      found : (n : ℕ) → find nat_cmp n es ≡ get rows n
      found n = ap (find nat_cmp n) is ∙ sym (get-entries rows n)

  pub all_put : (now : BusyWorkers) (es : Rows) → es ≡ [] → Putting now es → PutsAll ns rows old now
  all_put now es is h = record {
    held = λ n. at_each one_name (λ q. holds now n q ≡ cond (same_name q ns) (busy_after (get rows n) (holds old n q)) (holds old n q)) ns
        (ap (λ es. busy_after (find nat_cmp n es) (holds now n ns)) (sym is) ∙ h.here n
        ∙ ap (λ b. cond b (busy_after (get rows n) (holds old n ns)) (holds old n ns)) (sym (same_name_refl ns)))
        (λ q e. h.others n q e ∙ ap (λ b. cond b (busy_after (get rows n) (holds old n q)) (holds old n q)) (sym e));
    room = h.room_others;
  }

  module _ (k : ℕ) (slot : Option Worker) (es rest : Rows) (is : es ≡ (k, slot) ∷ rest) (now : BusyWorkers) (h : Putting now es) where
    pub room_now : IsTrue (is_some slot) → IsTrue (has_room now k ns)
    room_now row = h.room k (subst (λ r. IsTrue (is_some (flat r))) (sym (found_here numbers k slot es rest is)) row)

    pub one_put : (new : BusyWorkers) → Puts k ns (is_some slot) now new → Putting new rest
    one_put new put = record {
      here = at_each one_number (λ n. busy_after (find nat_cmp n rest) (holds new n ns) ≡ busy_after (get rows n) (holds old n ns)) k
          (ap (λ r. busy_after r (holds new k ns)) over_now ∙ put.held k ns
          ∙ (λ i. cond (is_eq (tied_itself numbers k i) && same_name_refl ns i) (is_some slot) (holds now k ns))
          ∙ ap (λ r. busy_after r (holds now k ns)) (sym (found_here numbers k slot es rest is)) ∙ h.here k)
          (λ n e. (λ i. busy_after (sym (found_other numbers k slot es rest is n e) i) (stays n ns (apart n ns e) i)) ∙ h.here n);
      others = λ n q e. stays n q (not_here (same_number n k) (same_name q ns) e) ∙ h.others n q e;
      sorted = rest_sorted numbers k slot es rest is h.sorted;
      room = at_each one_number (λ n. IsTrue (is_some (flat (find nat_cmp n rest))) → IsTrue (has_room new n ns)) k
          (λ row. not_true (subst (λ r. IsTrue (is_some (flat r))) over_now row))
          (λ n e row. put.room n ns (apart n ns e)
          (h.room n (subst (λ r. IsTrue (is_some (flat r))) (sym (found_other numbers k slot es rest is n e)) row)));
      room_others = λ n q e has. put.room n q (not_here (same_number n k) (same_name q ns) e) (h.room_others n q e has);
    }
      where
        over_now : find nat_cmp k rest ≡ None
        over_now = no_more numbers k slot es rest is h.sorted

        stays : (n : ℕ) (q : Name) → (same_number n k && same_name q ns) ≡ false → holds new n q ≡ holds now n q
        stays n q e = put.held n q ∙ ap (λ b. cond b (is_some slot) (holds now n q)) e

        apart : (n : ℕ) (q : Name) → same_number n k ≡ false → (same_number n k && same_name q ns) ≡ false
        apart n q e = ap (λ b. b && same_name q ns) e

-- ---- the changed rows of all namespaces

abbrev pub Slots : Type 0
Slots = List (Name × Option SettledTenant)

-- the change of the worker's row, where the namespace is there and changes
abbrev pub row_change : Option TenantRows → Option (Option SettledTenant) → ℕ → Option (Option Worker)
row_change (Some t) (Some (Some x)) n = get x.rows.workers n
row_change _ _ n = None

module _ (tenants : ByName (Option TenantRows)) (s : Settled) (old : BusyWorkers) where
  abbrev change_in : Name → Option (Option SettledTenant) → ℕ → Option (Option Worker)
  change_in q r n = row_change (row_at tenants q) r n

  -- the changes of es are still to come
  pub record Following (now : BusyWorkers) (es : Slots) : Type 0 where
    pub held : (q : Name) (n : ℕ) →
        busy_after (change_in q (find name_cmp q es) n) (holds now n q) ≡ busy_after (change_in q (get s.tenants q) n) (holds old n q)
    pub sorted : T (is_sorted name_cmp es)
    pub room : (q : Name) (x : SettledTenant) → flat (find name_cmp q es) ≡ Some x → HasRoomIn q x.rows.workers now

  pub none_followed : (es : Slots) → es ≡ entries s.tenants → HasBusyRoom s old → Following old es
  none_followed es is room = record {
    held = λ q n. ap (λ r. busy_after (change_in q r n) (holds old n q)) (found q);
    sorted = subst (λ es. T (is_sorted name_cmp es)) (sym is) (entries_sorted s.tenants);
    room = λ q x at. room q x (ap flat (sym (found q)) ∙ at);
  }
    where
      found : (q : Name) → find name_cmp q es ≡ get s.tenants q
      found q = ap (find name_cmp q) is ∙ sym (get-entries s.tenants q)

  unchanged : (r : Option TenantRows) (n : ℕ) → row_change r None n ≡ None
  unchanged None n = refl
  unchanged (Some t) n = refl

  pub all_followed : (now : BusyWorkers) (es : Slots) → es ≡ [] → Following now es → (q : Name) (n : ℕ) →
      holds now n q ≡ busy_after (change_in q (get s.tenants q) n) (holds old n q)
  all_followed now es is h q n = ap (λ r. busy_after r (holds now n q)) (sym (unchanged (row_at tenants q) n))
      ∙ ap (λ es. busy_after (change_in q (find name_cmp q es) n) (holds now n q)) (sym is) ∙ h.held q n

  module _ (k : Name) (slot : Option SettledTenant) (es rest : Slots) (is : es ≡ (k, slot) ∷ rest) (now : BusyWorkers) (h : Following now es) where
    over_now : find name_cmp k rest ≡ None
    over_now = no_more names k slot es rest is h.sorted

    later : (q : Name) (x : SettledTenant) → flat (find name_cmp q rest) ≡ Some x → (same_name q k ≡ false) × (flat (find name_cmp q es) ≡ Some x)
    later = at_each one_name
        (λ q. (x : SettledTenant) → flat (find name_cmp q rest) ≡ Some x → (same_name q k ≡ false) × (flat (find name_cmp q es) ≡ Some x)) k
        (λ x at. absurd (not_Some x (sym (ap flat over_now) ∙ at)))
        (λ q e x at. (e, ap flat (found_other names k slot es rest is q e) ∙ at))

    pub rows_room : (x : SettledTenant) → slot ≡ Some x → HasRoomIn k x.rows.workers now
    rows_room x some = h.room k x (ap flat (found_here names k slot es rest is) ∙ some)

    step : (new : BusyWorkers) → ((n : ℕ) → holds new n k ≡ busy_after (change_in k (Some slot) n) (holds now n k)) →
        ((n : ℕ) (q : Name) → same_name q k ≡ false → holds new n q ≡ holds now n q) →
        ((n : ℕ) (q : Name) → same_name q k ≡ false → IsTrue (has_room now n q) → IsTrue (has_room new n q)) → Following new rest
    step new here others kept = record {
      held = at_each one_name
          (λ q. (n : ℕ) → busy_after (change_in q (find name_cmp q rest) n) (holds new n q) ≡ busy_after (change_in q (get s.tenants q) n) (holds old n q)) k
          (λ n. ap (λ r. busy_after (change_in k r n) (holds new n k)) over_now
          ∙ ap (λ r. busy_after r (holds new n k)) (unchanged (row_at tenants k) n) ∙ here n
          ∙ ap (λ r. busy_after (change_in k r n) (holds now n k)) (sym (found_here names k slot es rest is)) ∙ h.held k n)
          (λ q e n. (λ i. busy_after (change_in q (sym (found_other names k slot es rest is q e) i) n) (others n q e i)) ∙ h.held q n);
      sorted = rest_sorted names k slot es rest is h.sorted;
      room = λ q x at n row. kept n q (later q x at).0 (h.room q x (later q x at).1 n row);
    }

    pub one_followed : (new : BusyWorkers) (x : SettledTenant) → IsTrue (is_some (row_at tenants k)) → slot ≡ Some x → PutsAll k x.rows.workers now new →
        Following new rest
    one_followed new x there some put = step new
        (λ n. put.held n k ∙ ap (λ b. cond b (busy_after (get x.rows.workers n) (holds now n k)) (holds now n k)) (same_name_refl k)
        ∙ ap (λ r. busy_after r (holds now n k)) (by (row_at tenants k) there n ∙ ap (λ slot. change_in k (Some slot) n) (sym some)))
        (λ n q e. put.held n q ∙ ap (λ b. cond b (busy_after (get x.rows.workers n) (holds now n q)) (holds now n q)) e)
        put.room
      where
        by : (r : Option TenantRows) → IsTrue (is_some r) → (n : ℕ) → get x.rows.workers n ≡ row_change r (Some (Some x)) n
        by None there n = not_true there
        by (Some t) there n = refl

    idle : (new : BusyWorkers) → new ≡ now → ((n : ℕ) → change_in k (Some slot) n ≡ None) → Following new rest
    idle new stays none = subst (λ b. Following b rest) (sym stays) (step now
        (λ n. ap (λ r. busy_after r (holds now n k)) (sym (none n))) (λ n q e. refl) (λ n q e has. has))

    pub not_there : (new : BusyWorkers) → new ≡ now → row_at tenants k ≡ None → Following new rest
    not_there new stays none = idle new stays (λ n. ap (λ r. row_change r (Some slot) n) none)

    pub not_changed : (new : BusyWorkers) → new ≡ now → slot ≡ None → Following new rest
    not_changed new stays none = idle new stays (λ n. ap (λ slot. change_in k (Some slot) n) none ∙ by (row_at tenants k) n)
      where
        by : (r : Option TenantRows) (n : ℕ) → row_change r (Some None) n ≡ None
        by None n = refl
        by (Some t) n = refl

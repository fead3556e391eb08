-- Owners that are changed one by one.
use Rattle.std.specs.Prelude.{◌≡◌, Bool, true, false, cond, T, List, [], ◌∷◌, Option, Some, None, option_map, IfSome}
use Rattle.std.proofs.Common.{refl, sym, ap, ◌∙◌, subst}
use Rattle.std.specs.FinMap.{FinMap, entries, entries_sorted, get, get-entries, insert, same_map}
use Rattle.std.specs.FinMap.Entries.{find, is_sorted}
use Rattle.keyed.specs.Table.{flat, row_at, rows, emptied}
use Rattle.keyed.proofs.Ordered.{absent}
use Rattle.keyed.proofs.Tables.{get-rows}
use Rattle.ns_types.specs.State.Names.{Name, ByName, name_cmp, same_name}
use Rattle.ns_types.proofs.Named.{names, one_name, same_name_refl}
use Rattle.ns_types.proofs.Tables.{get-map_rows, get-table_of, tied}
use Rattle.ns_types.proofs.Tests.{first, second, not_Some}
use Rattle.ns_change.specs.Changed.{perhaps}
use Rattle.ns_change.proofs.Opening.{row_emptied, row_set}
use Rattle.ns_settlement.specs.Owners.{ChangesRow, EachChanged, Turns, changed_owners, owners}

pub if_there : {Row : Type 0} (P : Row → Type 0) (r : Option Row) → ((row : Row) → r ≡ Some row → P row) → IfSome r P
if_there P None h = tt
if_there P (Some row) h = h row refl

pub there_if : {Row : Type 0} (P : Row → Type 0) (r : Option Row) → IfSome r P → (row : Row) → r ≡ Some row → P row
there_if P r h row is = subst (λ r. IfSome r P) is h

pub by_turn : {Row : Type 0} (becomes : Row → Row → Type 0) (P : Option Row → Option Row → Type 0) → P None None →
    ((a b : Row) → becomes a b → P (Some a) (Some b)) → (r s : Option Row) → Turns becomes r s → P r s
by_turn becomes P none some None s h = subst (P None) (sym h) none
by_turn becomes P none some (Some a) s h = subst (P (Some a)) (sym h.1) (some a h.0 h.2)

-- ---- one row

-- the row of that name comes to be b, and no other row changes
module _ {Row : Type 0} (k : Name) (old new : FinMap name_cmp (Option Row)) (b : Row)
    (rows_are : (q : Name) → row_at new q ≡ cond (same_name q k) (Some b) (row_at old q)) where
  at_name : row_at new k ≡ Some b
  at_name = rows_are k ∙ ap (λ t. cond t (Some b) (row_at old k)) (same_name_refl k)

  turns : (becomes : Row → Row → Type 0) (a : Row) → row_at old k ≡ Some a → becomes a b → ChangesRow becomes k old new
  turns becomes a at is = record {
    here = subst (λ r. Turns becomes r (row_at new k)) (sym at) (b, at_name, is);
    others = λ q e. rows_are q ∙ ap (λ t. cond t (Some b) (row_at old q)) e;
  }

  holds : (P : Row → Type 0) → P b → IfSome (row_at new k) P
  holds P h = subst (λ r. IfSome r P) (sym at_name) h

-- a row that is changed in place
module _ {Row : Type 0} (k : Name) (old new : FinMap name_cmp (Option Row)) (b : Row) (set : new ≡ insert old k (Some b)) where
  rows_after : (q : Name) → row_at new q ≡ cond (same_name q k) (Some b) (row_at old q)
  rows_after q = ap (λ m. row_at m q) set ∙ row_set names one_name old k b q

  pub in_place : (becomes : Row → Row → Type 0) (a : Row) → row_at old k ≡ Some a → becomes a b → ChangesRow becomes k old new
  in_place becomes a at is = turns k old new b rows_after becomes a at is

  pub row_in_place : (P : Row → Type 0) → P b → IfSome (row_at new k) P
  row_in_place P h = holds k old new b rows_after P h

-- what holds at the name and at the others holds at each
pub at_each : (P : Name → Type 0) (k : Name) → P k → ((q : Name) → same_name q k ≡ false → P q) → (q : Name) → P q
at_each P k here others q = by (same_name q k) refl
  where
    by : (t : Bool) → same_name q k ≡ t → P q
    by true t = subst P (sym (tied one_name q k t)) here
    by false t = others q t

-- ---- all rows

pub get-owners : {Row A : Type 0} (seen : Row → A) (m : FinMap name_cmp (Option Row)) (q : Name) → get (owners seen m) q ≡ option_map seen (row_at m q)
get-owners seen m q = get-table_of names one_name (λ _ row. seen row) (rows m) q ∙ ap (option_map seen) (get-rows names m q)

pub get-changed : {A X : Type 0} (change : A → X → A) (c : FinMap name_cmp (Option X)) (m : ByName A) (q : Name) →
    get (changed_owners change c m) q ≡ option_map (perhaps change (row_at c q)) (get m q)
get-changed change c m q = get-map_rows names one_name (λ name a. perhaps change (row_at c name) a) m q

pub none_changed : {A X : Type 0} (f : A → X → A) (r : Option A) → option_map (perhaps f None) r ≡ r
none_changed f None = refl
none_changed f (Some a) = refl

-- ---- an entry, and those after it

module _ {X : Type 0} (k : Name) (x : X) (es rest : List (Name × X)) (is : es ≡ (k, x) ∷ rest) where
  pub found_here : find name_cmp k es ≡ Some x
  found_here = ap (find name_cmp k) is ∙ ap (λ t. cond t (Some x) (find name_cmp k rest)) (same_name_refl k)

  pub found_other : (q : Name) → same_name q k ≡ false → find name_cmp q es ≡ find name_cmp q rest
  found_other q e = ap (find name_cmp q) is ∙ ap (λ t. cond t (Some x) (find name_cmp q rest)) e

  module _ (rises : T (is_sorted name_cmp es)) where
    sorted : T (is_sorted name_cmp ((k, x) ∷ rest))
    sorted = subst (λ es. T (is_sorted name_cmp es)) is rises

    pub no_more : find name_cmp k rest ≡ None
    no_more = (absent name_cmp names k rest (first _ _ sorted)).0

    pub rest_sorted : T (is_sorted name_cmp rest)
    rest_sorted = second _ _ sorted

-- ---- changes that are made one by one

module _ {Row A X : Type 0} (seen : Row → A) (change : A → X → A) (Room : X → Row → Type 0) where
  -- the rows, once the changes of es are in as well, come out as `all`, and there is room for them
  pub record Ahead (m : FinMap name_cmp (Option Row)) (es : List (Name × Option X)) (all : ByName A) : Type 0 where
    pub whole : (q : Name) → option_map (perhaps change (flat (find name_cmp q es))) (option_map seen (row_at m q)) ≡ get all q
    pub sorted : T (is_sorted name_cmp es)
    pub room : (q : Name) (x : X) (row : Row) → flat (find name_cmp q es) ≡ Some x → row_at m q ≡ Some row → Room x row

  pub all_ahead : (c : FinMap name_cmp (Option X)) (m : FinMap name_cmp (Option Row)) (es : List (Name × Option X)) → es ≡ entries c → EachChanged Room c m →
      Ahead m es (changed_owners change c (owners seen m))
  all_ahead c m es is room = record {
    whole = λ q. (λ i. option_map (perhaps change (flat (found q i))) (sym (get-owners seen m q) i)) ∙ sym (get-changed change c (owners seen m) q);
    sorted = subst (λ es. T (is_sorted name_cmp es)) (sym is) (entries_sorted c);
    room = λ q x row at there. room q x row (sym (ap flat (found q)) ∙ at) there;
  }
    where
      found : (q : Name) → find name_cmp q es ≡ get c q
      found q = ap (find name_cmp q) is ∙ sym (get-entries c q)

  turned : (x : X) (r s : Option Row) → Turns (λ a b. seen b ≡ change (seen a) x) r s → option_map seen s ≡ option_map (λ a. change a x) (option_map seen r)
  turned x None s h = ap (option_map seen) h
  turned x (Some a) s h = ap (option_map seen) h.1 ∙ ap Some h.2

  module _ (old new : FinMap name_cmp (Option Row)) (k : Name) (slot : Option X) (es rest : List (Name × Option X)) (all : ByName A)
      (is : es ≡ (k, slot) ∷ rest) (h : Ahead old es all) where
    whole_here : option_map seen (row_at new k) ≡ option_map (perhaps change slot) (option_map seen (row_at old k)) →
        option_map (perhaps change (flat (find name_cmp k rest))) (option_map seen (row_at new k)) ≡ get all k
    whole_here put = ap (λ r. option_map (perhaps change (flat r)) (option_map seen (row_at new k))) (no_more k slot es rest is h.sorted)
        ∙ none_changed change (option_map seen (row_at new k))
        ∙ put ∙ ap (λ r. option_map (perhaps change (flat r)) (option_map seen (row_at old k))) (sym (found_here k slot es rest is)) ∙ h.whole k

    whole_other : (q : Name) → same_name q k ≡ false → row_at new q ≡ row_at old q →
        option_map (perhaps change (flat (find name_cmp q rest))) (option_map seen (row_at new q)) ≡ get all q
    whole_other q e stays = (λ i. option_map (perhaps change (flat (sym (found_other k slot es rest is q e) i))) (option_map seen (stays i))) ∙ h.whole q

    step : option_map seen (row_at new k) ≡ option_map (perhaps change slot) (option_map seen (row_at old k))
        → ((q : Name) → same_name q k ≡ false → row_at new q ≡ row_at old q) → Ahead new rest all
    step put others = record {
      whole = at_each _ k (whole_here put) (λ q e. whole_other q e (others q e));
      sorted = rest_sorted k slot es rest is h.sorted;
      room = at_each (λ q. (x : X) (row : Row) → flat (find name_cmp q rest) ≡ Some x → row_at new q ≡ Some row → Room x row) k
          (λ x row at there. absurd (not_Some x (sym (ap flat (no_more k slot es rest is h.sorted)) ∙ at)))
          (λ q e x row at there. h.room q x row (ap flat (found_other k slot es rest is q e) ∙ at) (sym (others q e) ∙ there));
    }

    pub one_done : (x : X) → slot ≡ Some x → ChangesRow (λ a b. seen b ≡ change (seen a) x) k old new → Ahead new rest all
    one_done x some put = step
        (turned x (row_at old k) (row_at new k) put.here ∙ ap (λ s. option_map (perhaps change s) (option_map seen (row_at old k))) (sym some)) put.others

    pub none_done : slot ≡ None → new ≡ old → Ahead new rest all
    none_done none stays = step
        (ap (λ m. option_map seen (row_at m k)) stays ∙ sym (none_changed change _)
        ∙ ap (λ s. option_map (perhaps change s) (option_map seen (row_at old k))) (sym
        none))
        (λ q e. ap (λ m. row_at m q) stays)

    pub room_now : (x : X) → slot ≡ Some x → IfSome (row_at old k) (Room x)
    room_now x some = if_there (Room x) (row_at old k) (λ row at. h.room k x row (ap flat (found_here k slot es rest is) ∙ some) at)

  pub all_done : (m : FinMap name_cmp (Option Row)) (es : List (Name × Option X)) (all : ByName A) → es ≡ [] → Ahead m es all → owners seen m ≡ all
  all_done m es all is h = same_map names one_name _ _ (λ q. get-owners seen m q ∙ sym (none_changed change _)
      ∙ ap (λ es. option_map (perhaps change (flat (find name_cmp q es))) (option_map seen (row_at m q))) (sym is) ∙ h.whole q)

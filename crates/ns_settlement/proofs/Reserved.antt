-- Room that is made owner by owner.
use Rattle.std.specs.Prelude.{◌≡◌, ℕ, ◌≤◌, Bool, true, false, ◌||◌, cond, List, [], ◌∷◌, Option, Some, None}
use Rattle.std.specs.Prelude.{filter, length, map, option_map, IfSome}
use Rattle.std.proofs.Common.{refl, sym, ap, ◌∙◌, subst, arith}
use Rattle.std.specs.FinMap.{FinMap, entries, get, get-entries, same_map}
use Rattle.std.specs.FinMap.Entries.{find}
use Rattle.keyed.specs.Table.{flat, row_at}
use Rattle.ns_types.specs.declared.node.Class.{Class}
use Rattle.ns_types.specs.State.Lists.{Each}
use Rattle.ns_types.specs.State.Names.{Name, name_cmp, same_name}
use Rattle.ns_types.proofs.Lists.{not_both}
use Rattle.ns_types.proofs.Named.{names, one_name}
use Rattle.ns_types.proofs.Tables.{each_row}
use Rattle.ns_types.proofs.Tests.{not_Some, same_Some}
use Rattle.ns_change.specs.Settled.{classes_in}
use Rattle.ns_settlement.specs.Committed.{GainsClassRoom, HaveClassRoom, KeepsNodes, releases}
use Rattle.ns_settlement.specs.Owners.{Always, ChangesRow, EachChanged, owners}
use Rattle.ns_settlement.proofs.Owned.{at_each, by_turn, found_other, get-owners, if_there, there_if}
use Rattle.ns_tables.specs.declared.tables.PoolRows.{PoolRows}
use Rattle.ns_tables.specs.World.{pool_of}

module _ {Row A X : Type 0} (seen : Row → A) (Can Room : X → Row → Type 0) (carries : (x : X) (a b : Row) → seen b ≡ seen a → Can x a → Can x b) where
  -- the owners are as they were, and those that es does not name have their room
  pub record Reserved (m before : FinMap name_cmp (Option Row)) (es : List (Name × Option X)) (c : FinMap name_cmp (Option X)) : Type 0 where
    pub seen_is : (q : Name) → option_map seen (row_at m q) ≡ option_map seen (row_at before q)
    pub can : EachChanged Can c m
    pub stand : Each (λ e. get c e.0 ≡ Some e.1) es
    pub room : (q : Name) (x : X) (row : Row) → find name_cmp q es ≡ None → row_at c q ≡ Some x → row_at m q ≡ Some row → Room x row

  pub none_reserved : (m : FinMap name_cmp (Option Row)) (c : FinMap name_cmp (Option X)) (es : List (Name × Option X)) → es ≡ entries c → EachChanged Can c m →
      Reserved m m es c
  none_reserved m c es is can = record {
    seen_is = λ q. refl;
    can = can;
    stand = subst (λ es. Each (λ e. get c e.0 ≡ Some e.1) es) (sym is) (each_row names one_name (λ k slot. get c k ≡ Some slot) c (λ k slot at. at));
    room = λ q x row none at there. absurd (not_Some x (sym (ap flat (get-entries c q ∙ ap (find name_cmp q) (sym is) ∙ none)) ∙ at));
  }

  pub all_reserved : (m before : FinMap name_cmp (Option Row)) (es : List (Name × Option X)) (c : FinMap name_cmp (Option X)) → es ≡ [] →
      Reserved m before es c → EachChanged Room c m
  all_reserved m before es c is h name x row at there = h.room name x row (ap (find name_cmp name) is) at there

  pub same_owners : (m before : FinMap name_cmp (Option Row)) (es : List (Name × Option X)) (c : FinMap name_cmp (Option X)) → Reserved m before es c →
      owners seen m ≡ owners seen before
  same_owners m before es c h = same_map names one_name _ _ (λ q. get-owners seen m q ∙ h.seen_is q ∙ sym (get-owners seen before q))

  module _ (old new before : FinMap name_cmp (Option Row)) (k : Name) (slot : Option X) (es rest : List (Name × Option X)) (c : FinMap name_cmp (Option X))
      (is : es ≡ (k, slot) ∷ rest) (h : Reserved old before es c) where
    stand : Each (λ e. get c e.0 ≡ Some e.1) ((k, slot) ∷ rest)
    stand = subst (λ es. Each (λ e. get c e.0 ≡ Some e.1) es) is h.stand

    slot_is : row_at c k ≡ slot
    slot_is = ap flat stand.0

    pub can_now : (x : X) → slot ≡ Some x → IfSome (row_at old k) (Can x)
    can_now x some = if_there (Can x) (row_at old k) (λ row at. h.can k x row (slot_is ∙ some) at)

    seen_after : ChangesRow (λ a b. seen b ≡ seen a) k old new → (q : Name) → option_map seen (row_at new q) ≡ option_map seen (row_at before q)
    seen_after put = at_each _ k
        (by_turn _ (λ r s. option_map seen s ≡ option_map seen r) refl (λ a b is. ap Some is) (row_at old k) (row_at new k) put.here ∙ h.seen_is k)
        (λ q e. ap (option_map seen) (put.others q e) ∙ h.seen_is q)

    -- also where room was refused
    pub owners_after : ChangesRow (λ a b. seen b ≡ seen a) k old new → owners seen new ≡ owners seen before
    owners_after put = same_map names one_name _ _ (λ q. get-owners seen new q ∙ seen_after put q ∙ sym (get-owners seen before q))

    can_after : ChangesRow (λ a b. seen b ≡ seen a) k old new → EachChanged Can c new
    can_after put = at_each (λ q. (x : X) (row : Row) → row_at c q ≡ Some x → row_at new q ≡ Some row → Can x row) k
        (λ x row at there. by_turn (λ a b. seen b ≡ seen a) (λ r s. row_at old k ≡ r → s ≡ Some row → Can x row) (λ _ no. absurd (not_Some row no))
        (λ a b is was now. subst (Can x) (same_Some b row now) (carries x a b is (h.can k x a at was))) (row_at old k) (row_at new k) put.here refl there)
        (λ q e x row at there. h.can q x row at (sym (put.others q e) ∙ there))

    pub one_reserved : (x : X) → slot ≡ Some x → ChangesRow (λ a b. seen b ≡ seen a) k old new → IfSome (row_at new k) (Room x) → Reserved new before rest c
    one_reserved x some put room = record {
      seen_is = seen_after put;
      can = can_after put;
      stand = stand.1;
      room = at_each (λ q. (x : X) (row : Row) → find name_cmp q rest ≡ None → row_at c q ≡ Some x → row_at new q ≡ Some row → Room x row) k
          (λ y row none at there. subst (λ x. Room x row) (same_Some x y (sym (slot_is ∙ some) ∙ at)) (there_if (Room x) (row_at new k) room row there))
          (λ q e y row none at there. h.room q y row (found_other k slot es rest is q e ∙ none) at (sym (put.others q e) ∙ there));
    }

    pub slot_passed : slot ≡ None → new ≡ old → Reserved new before rest c
    slot_passed none stays = subst (λ m. Reserved m before rest c) (sym stays) (record {
      seen_is = h.seen_is;
      can = h.can;
      stand = stand.1;
      room = at_each (λ q. (x : X) (row : Row) → find name_cmp q rest ≡ None → row_at c q ≡ Some x → row_at old q ≡ Some row → Room x row) k
          (λ x row _ at there. absurd (not_Some x (sym (slot_is ∙ none) ∙ at)))
          (λ q e x row missing at there. h.room q x row (found_other k slot es rest is q e ∙ missing) at there);
    })

-- ---- classes

abbrev Table : Type 0
Table = FinMap name_cmp (Option PoolRows)

-- whether some class stands there
abbrev pub is_some_class : List Class → Bool
is_some_class [] = false
is_some_class (class ∷ classes) = true

pub releases_is : (q : Name) (rooms : List (Name × Class)) → releases rooms q ≡ is_some_class (classes_in q rooms)
releases_is q [] = refl
releases_is q (room ∷ rooms) = by (same_name q room.0) (releases_is q rooms)
  where
    by : (b : Bool) → releases rooms q ≡ is_some_class (classes_in q rooms)
        → (b || releases rooms q) ≡ is_some_class (map (λ r. r.1) (cond b (room ∷ filter (λ r. same_name q r.0) rooms) (filter (λ r. same_name q r.0) rooms)))
    by true rest = refl
    by false rest = rest

no_class : (classes : List Class) → is_some_class classes ≡ false → (n : ℕ) → length classes ≤ n
no_class [] e n = omega arith
no_class (class ∷ classes) e n = not_both refl e

-- the pools and their nodes are as they were, and those that es does not name have places for their classes
pub record PlacesMade (m before : Table) (es rooms : List (Name × Class)) : Type 0 where
  pub pools : (q : Name) → option_map pool_of (row_at m q) ≡ option_map pool_of (row_at before q)
  pub nodes : KeepsNodes before m
  pub room : (q : Name) (pool : PoolRows) → releases es q ≡ false → row_at m q ≡ Some pool → length (classes_in q rooms) ≤ pool.classes.room

pub no_places : (m : Table) (rooms : List (Name × Class)) → PlacesMade m m rooms rooms
no_places m rooms = record {
  pools = λ q. refl;
  nodes = λ q. refl;
  room = λ q pool none at. no_class (classes_in q rooms) (sym (releases_is q rooms) ∙ none) pool.classes.room;
}

pub all_places : (m before : Table) (es rooms : List (Name × Class)) → es ≡ [] → PlacesMade m before es rooms → HaveClassRoom rooms m
all_places m before es rooms is h name pool at = h.room name pool (ap (λ es. releases es name) is) at

pub same_pools : (m before : Table) → ((q : Name) → option_map pool_of (row_at m q) ≡ option_map pool_of (row_at before q)) →
    owners pool_of m ≡ owners pool_of before
same_pools m before is = same_map names one_name _ _ (λ q. get-owners pool_of m q ∙ is q ∙ sym (get-owners pool_of before q))

module _ (old new before : Table) (e : Name × Class) (es rest rooms : List (Name × Class)) (is : es ≡ e ∷ rest) (h : PlacesMade old before es rooms) where
  pub pools_after : ChangesRow GainsClassRoom e.0 old new → (q : Name) → option_map pool_of (row_at new q) ≡ option_map pool_of (row_at before q)
  pools_after put = at_each _ e.0
      (by_turn _ (λ r s. option_map pool_of s ≡ option_map pool_of r) refl (λ a b is. ap Some is.pool) (row_at old e.0) (row_at new e.0) put.here ∙ h.pools e.0)
      (λ q f. ap (option_map pool_of) (put.others q f) ∙ h.pools q)

  pub nodes_after : ChangesRow GainsClassRoom e.0 old new → KeepsNodes before new
  nodes_after put = at_each _ e.0
      (by_turn _ (λ r s. option_map (λ pool. pool.nodes) s ≡ option_map (λ pool. pool.nodes) r) refl (λ a b is. ap Some is.nodes) (row_at old e.0)
      (row_at new e.0) put.here ∙ h.nodes e.0)
      (λ q f. ap (option_map (λ pool. pool.nodes)) (put.others q f) ∙ h.nodes q)

  other : (q : Name) → same_name q e.0 ≡ false → releases es q ≡ releases rest q
  other q f = ap (λ es. releases es q) is ∙ ap (λ b. b || releases rest q) f

  pub place_made : ChangesRow GainsClassRoom e.0 old new → IfSome (row_at new e.0) (λ pool. length (classes_in e.0 rooms) ≤ pool.classes.room) →
      PlacesMade new before rest rooms
  place_made put room = record {
    pools = pools_after put;
    nodes = nodes_after put;
    room = at_each (λ q. (pool : PoolRows) → releases rest q ≡ false → row_at new q ≡ Some pool → length (classes_in q rooms) ≤ pool.classes.room) e.0
        (λ pool none at. there_if _ (row_at new e.0) room pool at)
        (λ q f pool none at. h.room q pool (other q f ∙ none) (sym (put.others q f) ∙ at));
  }

  pub place_passed : releases rest e.0 ≡ true → new ≡ old → PlacesMade new before rest rooms
  place_passed more stays = subst (λ m. PlacesMade m before rest rooms) (sym stays) (record {
    pools = h.pools;
    nodes = h.nodes;
    room = at_each (λ q. (pool : PoolRows) → releases rest q ≡ false → row_at old q ≡ Some pool → length (classes_in q rooms) ≤ pool.classes.room) e.0
        (λ pool none at. not_both more none)
        (λ q f pool none at. h.room q pool (other q f ∙ none) at);
  })

-- ---- what asks nothing

pub always_carries : {Row A X : Type 0} (seen : Row → A) (x : X) (a b : Row) → seen b ≡ seen a → Always x a → Always x b
always_carries seen x a b is can = tt

-- Queues of rows, each at a place, and which rows can be added without memory.
use Rattle.std.specs.Prelude.{◌≡◌, ℕ, ◌+◌, ◌<◌, ◌≤◌, ◌^◌, Bool, false, IsTrue, List, [], ◌∷◌, refl}
use Rattle.std.specs.Prelude.{cond, filter, is_some, map, option_map, Option, Some, None}
use Rattle.std.specs.Coded.{Coded, code_by, coded×, coded_ℕ}
use Rattle.std.specs.FinMap.{entries}
use Rattle.std.specs.FinMap.Entries.{find}
use Rattle.std.specs.List.{list_any}
use Rattle.std.specs.Ordering.{nat_cmp}
use Rattle.std.specs.Option.{option_map_or}
use Rattle.keyed.specs.Levels.{Adds, Drops, Keeps, has_place_room, holds_place, same_place}
use Rattle.keyed.specs.Table.{KeepsSlots, has_slot, row_at, row_list}
use Rattle.keyed.specs.declared.place_set.PlaceSet.{PlaceSet}
use Rattle.keyed.specs.declared.placed_rows.PlacedRows.{PlacedRows}
use Rattle.ns_types.specs.State.Names.{Key, Name, same_key, same_number}
use mathlib.Core.Path.{Singl, ap, contract}

-- ---- the rows

-- the rows of slots, in their order
abbrev pub rows_in : {R : Type 0} → List (ℕ × Option R) → List R
rows_in slots = map (λ e. e.1) (row_list slots)

-- the keys of slots, in their order
abbrev pub keys_in : List (ℕ × Option Key) → List Key
keys_in slots = rows_in slots

-- the key of a slot, if it has one that passes the test
abbrev pub passing_at : (Key → Bool) → ℕ × Option Key → List Key
passing_at passes (place, None) = []
passing_at passes (place, Some key) = filter passes (key ∷ [])

-- one of the rows has the key
abbrev pub has_row : {R : Type 0} → (R → Key) → List R → Key → Bool
has_row key_of rows key = list_any (λ row. same_key key (key_of row)) rows

pub record Queue (R : Type 0) : Type 0 where
  pub items : List R
  -- the place that the next row gets
  pub next : ℕ
  pub placed : PlacedRows R
  -- the items are the rows in the order of their places
  pub in_order : rows_in (entries placed.rows) ≡ items

abbrev pub KeyQueue : Type 0
KeyQueue = Queue Key

abbrev pub queue_of : {R : Type 0} → ℕ → PlacedRows R → Queue R
queue_of next placed =
    record { items = rows_in (entries placed.rows); next = next; placed = placed; in_order = refl }

abbrev queue_with : {R : Type 0} → ℕ → (placed : PlacedRows R) → Singl (rows_in (entries placed.rows)) → Queue R
queue_with next placed items = record { items = items.0; next = next; placed = placed; in_order = items.1 }

pub queue_again : {R : Type 0} (q : Queue R) → queue_of q.next q.placed ≡ q
queue_again q = ap (queue_with q.next q.placed) (contract q.in_order)

-- a queue is stored as its next place and its placed rows
abbrev pub queue_code : {R : Type 0} → Coded (PlacedRows R) → Coded (Queue R)
queue_code {R = R} placed = code_by (ℕ × PlacedRows R) (coded× coded_ℕ placed)
    (λ q. (q.next, q.placed)) (λ p. queue_of p.0 p.1) queue_again

-- ---- room

-- a key with a place
abbrev pub at : Key → ℕ → Name × (ℕ × ℕ)
at key place = (key.0, (key.1, place))

module _ {R : Type 0} (key_of : R → Key) where
  -- the row can be put at this place without memory
  pub record HasRoomAt (place : ℕ) (row : R) (placed : PlacedRows R) : Type 0 where
    pub slot : IsTrue (has_slot placed.rows place)
    pub held : IsTrue (has_place_room placed.places (at (key_of row) place))

  abbrev pub HasRoomFrom : ℕ → List R → PlacedRows R → Type 0
  HasRoomFrom place [] placed = Unit {0}
  HasRoomFrom place (row ∷ rows) placed =
      (place + 1 < 2 ^ 64) × HasRoomAt place row placed × HasRoomFrom (place + 1) rows placed

  -- the rows can be appended without memory
  abbrev pub CanAddRows : List R → Queue R → Type 0
  CanAddRows rows q = HasRoomFrom q.next rows q.placed

-- the keys can be appended without memory
abbrev pub CanAdd : List Key → KeyQueue → Type 0
CanAdd keys q = CanAddRows (λ key. key) keys q

-- ---- what holds of every queue

module _ {R : Type 0} (key_of : R → Key) where
  -- a row with the key is at that place
  abbrev pub is_at : Key → Option R → Bool
  is_at key stands = option_map_or (λ row. same_key key (key_of row)) stands false

  pub record IsPlaced (first next : ℕ) (placed : PlacedRows R) : Type 0 where
    -- the set holds a key with a place if and only if a row with the key is at that place
    pub held : (key : Key) (n : ℕ) →
        holds_place placed.places (at key n) ≡ is_at key (row_at placed.rows n)
    -- no row is at the next place or a later one
    pub behind : (n : ℕ) → next ≤ n → row_at placed.rows n ≡ None
    -- no row is before the first place, and if no row is at it, it is the next place
    pub before : (n : ℕ) → n < first → row_at placed.rows n ≡ None
    pub at_first : row_at placed.rows first ≡ None → first ≡ next

-- ---- what a look-up returns

-- a place at which the set holds the key; none if there is no such place
abbrev pub IsHeldAt : PlaceSet → Key → Option ℕ → Type 0
IsHeldAt places key None = (n : ℕ) → holds_place places (at key n) ≡ false
IsHeldAt places key (Some n) = IsTrue (holds_place places (at key n))

-- a place at which a row has the key; none if no row has it
abbrev pub IsPlaceOf : {R : Type 0} → (R → Key) → Key → Queue R → Option ℕ → Type 0
IsPlaceOf key_of key q None = has_row key_of q.items key ≡ false
IsPlaceOf key_of key q (Some n) =
    IsTrue (has_row key_of q.items key) × (option_map key_of (row_at q.placed.rows n) ≡ Some key)

-- a slot has the number
abbrev pub stands_in : {Y : Type 0} → ℕ → List (ℕ × Y) → Bool
stands_in n slots = is_some (find nat_cmp n slots)

-- ---- what a change leaves

module _ {R : Type 0} where
  -- the same rows at the same places, and the same next place
  pub record KeepsPlaces (old new : Queue R) : Type 0 where
    pub rows : (n : ℕ) → row_at new.placed.rows n ≡ row_at old.placed.rows n
    pub next : new.next ≡ old.next

  pub record KeepsRows (old new : PlacedRows R) : Type 0 where
    pub rows : (n : ℕ) → row_at new.rows n ≡ row_at old.rows n
    pub slots : KeepsSlots old.rows new.rows
    pub places : Keeps holds_place has_place_room old.places new.places

  pub record KeepsRoom (old new : PlacedRows R) : Type 0 where
    pub slots : KeepsSlots old.rows new.rows
    pub places : (key : Key) (n : ℕ) →
        IsTrue (has_place_room old.places (at key n)) → IsTrue (has_place_room new.places (at key n))

  -- the other rows stay, in their order
  abbrev pub LeavesOthers : Option R → List R → List R → Type 0
  LeavesOthers taken old new =
      (passes : R → Bool) → option_map_or passes taken false ≡ false → filter passes new ≡ filter passes old

module _ {R : Type 0} (key_of : R → Key) where
  -- the row is at this place afterwards
  pub record PutsRow (place : ℕ) (row : R) (old new : PlacedRows R) : Type 0 where
    pub rows : (n : ℕ) → row_at new.rows n ≡ cond (same_number n place) (Some row) (row_at old.rows n)
    pub slots : KeepsSlots old.rows new.rows
    pub places : Adds holds_place has_place_room same_place (at (key_of row) place) old.places new.places

  -- the key of the row that is taken is not at this place any more
  abbrev pub LeavesPlace : ℕ → Option R → PlaceSet → PlaceSet → Type 0
  LeavesPlace place None old new = new ≡ old
  LeavesPlace place (Some row) old new =
      Drops holds_place has_place_room same_place (at (key_of row) place) old new

  -- no row is at this place afterwards
  pub record TakesRow (place : ℕ) (taken : Option R) (old new : PlacedRows R) : Type 0 where
    pub rows : (n : ℕ) → row_at new.rows n ≡ cond (same_number n place) None (row_at old.rows n)
    pub slots : KeepsSlots old.rows new.rows
    pub places : LeavesPlace place taken old.places new.places

  -- there is no room for the row at this place afterwards
  pub record ClearsRoom (place : ℕ) (row : R) (old new : PlacedRows R) : Type 0 where
    pub rows : (n : ℕ) → row_at new.rows n ≡ row_at old.rows n
    pub places : Drops holds_place has_place_room same_place (at (key_of row) place) old.places new.places

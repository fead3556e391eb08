-- Sets of keys in levels: a table by name or number of smaller sets, and in the end a table by number. A set says of each key
-- whether it is held, and whether there is room for it.
use Rattle.std.specs.Prelude.{◌≡◌, ℕ, Bool, true, false, not, ◌&&◌, ◌||◌, IsTrue, Option, is_some}
use Rattle.std.specs.Option.{option_map_or}
use Rattle.keyed.specs.Table.{has_slot, row_at}
use Rattle.std.specs.FinMap.{FinMap}
use Rattle.std.specs.Ordering.{eq_by_cmp, nat_cmp}
use Rattle.std.specs.declared.cmp.Ordering.{Ordering}
use Rattle.ns_types.specs.State.Names.{Name, Key, ByName, ByNumber, same_name, same_number}
use Rattle.keyed.specs.declared.key_set.KeySet.{KeySet}
use Rattle.keyed.specs.declared.number_places.NumberPlaces.{NumberPlaces}
use Rattle.keyed.specs.declared.place_set.PlaceSet.{PlaceSet}

module _ {K I A : Type 0} {R : K → K → Ordering} where
  -- what the set at the first part of the key says of the rest; false if there is no such set
  abbrev pub at_key : (I → A → Bool) → FinMap R (Option I) → K × A → Bool
  at_key says sets key = option_map_or (λ set. says set key.1) (row_at sets key.0) false

module _ {K A : Type 0} (R : K → K → Ordering) where
  abbrev pub same_by : (A → A → Bool) → K × A → K × A → Bool
  same_by same a b = eq_by_cmp R a.0 b.0 && same a.1 b.1

module _ {I A : Type 0} where
  -- what the set at the key's name says of the rest of the key; false if there is no such set
  abbrev pub at_name : (I → A → Bool) → ByName (Option I) → Name × A → Bool
  at_name says sets key = option_map_or (λ set. says set key.1) (row_at sets key.0) false

module _ {A : Type 0} where
  abbrev pub same_at : (A → A → Bool) → Name × A → Name × A → Bool
  same_at same a b = same_name a.0 b.0 && same a.1 b.1

-- ---- what a change of a set leaves: the keys that it holds, and its room

module _ {I A : Type 0} (holds has_room : I → A → Bool) where
  -- the same keys, and no less room
  pub record Keeps (old new : I) : Type 0 where
    pub held : (key : A) → holds new key ≡ holds old key
    pub room : (key : A) → IsTrue (has_room old key) → IsTrue (has_room new key)

  -- one key more, and no less room
  pub record Adds (same : A → A → Bool) (added : A) (old new : I) : Type 0 where
    pub held : (key : A) → holds new key ≡ (same key added || holds old key)
    pub room : (key : A) → IsTrue (has_room old key) → IsTrue (has_room new key)

  -- one key less, and no room for it, but no less for others
  pub record Drops (same : A → A → Bool) (dropped : A) (old new : I) : Type 0 where
    pub held : (key : A) → holds new key ≡ (not (same key dropped) && holds old key)
    pub room : (key : A) → same key dropped ≡ false → IsTrue (has_room old key) → IsTrue (has_room new key)
    pub gone : (key : A) → same key dropped ≡ true → has_room new key ≡ false

-- ---- keys: a name with a number

abbrev pub holds_number : ByNumber (Option Unit) → ℕ → Bool
holds_number numbers n = is_some (row_at numbers n)

abbrev pub holds_key : KeySet → Key → Bool
holds_key keys = at_name holds_number keys.numbers

abbrev pub has_key_room : KeySet → Key → Bool
has_key_room keys = at_name has_slot keys.numbers

-- ---- places: a number, or a name and a number, with a place

abbrev pub holds_numbered : NumberPlaces → ℕ × ℕ → Bool
holds_numbered set = at_key holds_number set.numbers

abbrev pub has_numbered_room : NumberPlaces → ℕ × ℕ → Bool
has_numbered_room set = at_key has_slot set.numbers

abbrev pub same_numbered : ℕ × ℕ → ℕ × ℕ → Bool
same_numbered = same_by nat_cmp same_number

abbrev pub holds_place : PlaceSet → Name × (ℕ × ℕ) → Bool
holds_place set = at_name holds_numbered set.names

abbrev pub has_place_room : PlaceSet → Name × (ℕ × ℕ) → Bool
has_place_room set = at_name has_numbered_room set.names

abbrev pub same_place : Name × (ℕ × ℕ) → Name × (ℕ × ℕ) → Bool
same_place = same_at same_numbered

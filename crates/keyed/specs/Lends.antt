-- What becomes of a table that returns a `&mut` to a row: the row at the key is the last one that was written through it. If
-- there was no row, the table stays as it is.
use Rattle.std.specs.Prelude.{ℕ, Bool, List, Option, Some}
use Rattle.std.specs.declared.cmp.Ordering.{Ordering}
use Rattle.std.specs.Borrow.{LendsIf, Fml, RattleType, MutBor}
use Rattle.std.specs.FinMap.{insert}
use Rattle.std.specs.FinMap.Entries.{put}
use Rattle.ns_types.specs.State.Names.{Name, ByName, ByNumber}
use Rattle.keyed.specs.contracts.names.NameTable
use Rattle.keyed.specs.contracts.numbers.NumberTable
use Rattle.keyed.specs.contracts.owner_table.OwnerTable
use Rattle.keyed.specs.contracts.slots.Slots

module _ (V : RattleType) where
  abbrev pub lends_at_name : MutBor (ByName (Option V.Denot)) → Name → Option (MutBor V.Denot) → Fml
  lends_at_name table key row = LendsIf (NameTable.the_row V) V table row (λ w. insert table.now key (Some w)) table.now

  abbrev pub lends_at_number : MutBor (ByNumber (Option V.Denot)) → ℕ → Option (MutBor V.Denot) → Fml
  lends_at_number table key row =
      LendsIf (NumberTable.the_row V) V table row (λ w. insert table.now key (Some w)) table.now

module _ (V : RattleType) (at_bound : V.Denot → Bool) where
  abbrev pub lends_owner : MutBor (ByName (Option V.Denot)) → Name → Option (MutBor V.Denot) → Fml
  lends_owner table key row = LendsIf (OwnerTable.the_row V (record { at_bound = at_bound })) V
      table row (λ w. insert table.now key (Some w)) table.now

-- the order of keys, as a bound on their type gives it
abbrev pub Order : Type 0 → Type 0
Order K = record { partial_cmp : K → K → Option Ordering; eq : K → K → Bool; cmp : K → K → Ordering }

-- what a key is hashed as
abbrev pub HashInput : Type 0 → Type 0
HashInput K = K → List (List ℕ)

module _ (K V : RattleType) (order : Order K.Denot) (hash_input : HashInput K.Denot) where
  abbrev slots_row : RattleType
  slots_row = Slots.the_row K V (record { cmp = order.cmp }) (record { eq = order.eq })
      (record { partial_cmp = order.partial_cmp }) (record { hash_input = hash_input })

  abbrev pub lends_at_key : MutBor (List (K.Denot × Option V.Denot)) → K.Denot → Option (MutBor V.Denot) → Fml
  lends_at_key slots key row = LendsIf slots_row V slots row (λ w. put order.cmp key (Some w) slots.now) slots.now

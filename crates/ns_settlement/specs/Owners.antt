-- Tables of owners, and the rows that change in them.
use Rattle.std.specs.Prelude.{◌≡◌, false, Option, Some, None}
use Rattle.std.specs.FinMap.{FinMap}
use Rattle.keyed.specs.Table.{row_at, rows}
use Rattle.ns_types.specs.State.Names.{Name, ByName, name_cmp, same_name}
use Rattle.ns_types.specs.State.Tables.{map_rows, table_of}
use Rattle.ns_change.specs.Changed.{perhaps}

-- the owners as the model has them, without vacant slots and room
abbrev pub owners : {Row A : Type 0} → (Row → A) → FinMap name_cmp (Option Row) → ByName A
owners seen m = table_of (λ _ row. seen row) (rows m)

-- each owner with its change, if it has one
abbrev pub changed_owners : {A X : Type 0} → (A → X → A) → FinMap name_cmp (Option X) → ByName A → ByName A
changed_owners change c m = map_rows (λ name a. perhaps change (row_at c name) a) m

-- for each changed owner that is there, So holds of its change and its row
abbrev pub EachChanged : {X Row : Type 0} → (X → Row → Type 0) → FinMap name_cmp (Option X) →
    FinMap name_cmp (Option Row) → Type 0
EachChanged {X = X} {Row = Row} So c m = (name : Name) (x : X) (row : Row) → row_at c name ≡ Some x →
    row_at m name ≡ Some row → So x row

-- there is no row before and after, or `becomes` holds of the row before and the row after
abbrev pub Turns : {Row : Type 0} → (Row → Row → Type 0) → Option Row → Option Row → Type 0
Turns becomes None new = new ≡ None
Turns {Row = Row} becomes (Some a) new = (b : Row) × (new ≡ Some b) × becomes a b

-- only the row of that name changes, and `becomes` holds of it
pub record ChangesRow {Row : Type 0} (becomes : Row → Row → Type 0) (name : Name)
    (old new : FinMap name_cmp (Option Row)) : Type 0 where
  pub here : Turns becomes (row_at old name) (row_at new name)
  pub others : (other : Name) → same_name other name ≡ false → row_at new other ≡ row_at old other

-- the change can always be made
abbrev pub Always : {X Row : Type 0} → X → Row → Type 0
Always x row = Unit {0}

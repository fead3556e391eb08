-- The lists of rows whose names pass.
use Rattle.std.specs.Prelude.{◌≡◌, Bool, List, map, filter, IfOk, Option, Result}
use Rattle.std.specs.Borrow.{Bor}
use Rattle.std.specs.Fn.{FnReturnsAt, Shared}
use Rattle.std.specs.declared.alloc.AllocError.{AllocError}
use Rattle.keyed.specs.Table.{row_list}
use Rattle.ns_types.specs.declared.reply.Content.{Content}
use Rattle.ns_types.specs.State.Names.{Name}
use Rattle.ns_types.specs.State.Rows.{World}
use Rattle.ns_tables.specs.declared.tables.Tables.{Tables}
use Rattle.ns_tables.specs.World.{world_of}

-- the closure answers whether a name passes
abbrev pub Tests : {F : Type 0} → Shared F (Bor Name × Unit {0}) Bool → F → (Name → Bool) → Type 0
Tests call shows passes = (name : Name) (b : Bool) → FnReturnsAt call shows name b → b ≡ passes name

-- the rows whose names pass, as lists show them
abbrev pub ShowsPassing : {F V S : Type 0} → Shared F (Bor Name × Unit {0}) Bool → F → (Name × V → S)
    → List (Name × Option V) → Result (List S) AllocError → Type 0
ShowsPassing call shows show slots result = (passes : Name → Bool) → Tests call shows passes →
    IfOk result (λ shown. shown ≡ map show (filter (λ e. passes e.0) (row_list slots)))

-- the content that lists the rows whose names pass
abbrev pub ListsPassing : {F : Type 0} → Shared F (Bor Name × Unit {0}) Bool → F → ((Name → Bool) → World → Content)
    → Tables → Result Content AllocError → Type 0
ListsPassing call shows list tables result = (passes : Name → Bool) → Tests call shows passes →
    IfOk result (λ content. content ≡ list passes (world_of tables))

-- Where a class belongs in an ordered list of classes.
use Rattle.std.specs.Prelude.{◌≡◌, ℕ, ◌≤◌, List, length, MatchOption, Option}
use Rattle.std.specs.BTreeSet.{insert_key}
use Rattle.std.specs.List.{insert}
use Rattle.ns_types.specs.declared.node.Class.{Class}
use Rattle.ns_types.specs.State.Names.{class_cmp}

-- the place where the class has to be inserted; none if the list has the class already
abbrev pub Takes : Class → List Class → Option ℕ → Type 0
Takes class classes place = MatchOption place
    (insert_key class_cmp classes class ≡ classes)
    (λ i. (i ≤ length classes) × (insert_key class_cmp classes class ≡ insert classes i class))

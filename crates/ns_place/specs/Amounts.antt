-- Amounts that the program can count with.
use Rattle.std.specs.Prelude.{List}
use Rattle.ns_types.specs.declared.resources.Resources.{Resources}
use Rattle.ns_types.specs.declared.snapshot.LiveAllocation.{LiveAllocation}
use Rattle.ns_types.specs.State.Resources.{IsCounted, plus, total}

-- what is left, together with all that evictions can free, can be counted
abbrev pub IsCountedFreed : Resources → List LiveAllocation → Type 0
IsCountedFreed left evictable = IsCounted (plus left (total (λ a. a.size) evictable))

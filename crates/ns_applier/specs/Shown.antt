-- An allocation that ends is shown differently than before.
use Rattle.std.specs.Prelude.{◌≡◌, true, false}
use Rattle.ns_types.specs.declared.allocation.Allocation.{Allocation}
use Rattle.ns_types.specs.Settling.Same.{same_allocation}
use Rattle.ns_types.specs.State.Rows.{is_live}

abbrev pub EndedIsShown : Type 0
EndedIsShown = (a b : Allocation) → is_live a ≡ true → is_live b ≡ false → same_allocation a b ≡ false

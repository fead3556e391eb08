-- The rest of a text, as a slice gives it.
use Rattle.std.proofs.Common.{◌≡◌, ℕ, ◌-◌, length, take, drop, arith, length-drop}
use Rattle.std.proofs.lemmas.List.{take_all}
use Rattle.ns_types.specs.State.Names.{Name}

pub rest_is : (text : Name) (n : ℕ) → take (length text - n) (drop n text) ≡ drop n text
rest_is text n = take_all (length text - n) (drop n text) (omega (arith, length-drop n text))

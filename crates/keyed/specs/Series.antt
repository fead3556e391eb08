-- Rows in their order, and how many can be added without memory.
use Rattle.std.specs.Prelude.{ℕ, ◌-◌, List}
use Rattle.std.specs.Vec.{vec_capacity, vec_len}
use Rattle.std.specs.declared.vec.Vec.{Vec}

pub record Series (X : Type 0) : Type 0 where
  pub items : List X
  pub room : ℕ

abbrev pub series_of : {X A : Type 0} → Vec X A → Series X
series_of v = record { items = v.items; room = vec_capacity v - vec_len v }

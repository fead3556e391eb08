-- Counters at their bound.
use Rattle.std.specs.Prelude.{ℕ, ◌+◌, Bool, nat_lt}
use Rattle.ns_types.specs.Steps.{greatest}

-- a counter can not rise any more
abbrev pub is_at_bound : ℕ → Bool
is_at_bound n = nat_lt greatest (n + 1)

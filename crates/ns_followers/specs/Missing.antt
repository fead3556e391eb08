-- Releases that a follower has missed.
use Rattle.std.specs.Prelude.{ℕ, Bool, false, ◌&&◌, List, nat_lt}
use Rattle.std.specs.Option.{option_map_or}
use Rattle.std.specs.FinMap.{find}
use Rattle.ns_types.specs.declared.evaluation.Evaluation.{Evaluation}
use Rattle.ns_types.specs.declared.node.Class.{Class}
use Rattle.ns_types.specs.Settling.Releases.{can_use}
use Rattle.ns_types.specs.State.Names.{class_cmp}

-- the entry is later than that number, the evaluation can use its class, and the first entry of that class in the list
-- is later too
abbrev pub is_new : List (Class × ℕ) → ℕ → Evaluation → Class × ℕ → Bool
is_new releases seen e release = (nat_lt seen release.1 && can_use e release.0)
    && option_map_or (nat_lt seen) (find class_cmp release.0 releases) false

use Rattle.std.proofs.Common.{◌≡◌, ◌++◌, drop}
use Rattle.std.specs.Prelude.{flat_map}
use Rattle.keyed.specs.Queue.{passing_at}
use Rattle.ns_types.specs.State.Names.{Key}
use Rattle.ns_copies.specs.Chosen.{is_chosen}
use Rattle.ns_copies.proofs.lists.chosen_keys.Given as goal

abbrev pub invariant-loop-slot : goal.invariant-loop-slot
invariant-loop-slot l = let chosen = passing_at (λ (key : Key). is_chosen l.spaces key.0) in
    l.keys ++ flat_map chosen (drop l.slot-index l.slot-items) ≡ flat_map chosen l.slot-items

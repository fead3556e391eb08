use Rattle.std.proofs.Common.{◌≡◌, take}
use Rattle.std.specs.Map.{keys_of}
use Rattle.keyed.proofs.index.copied_keys.Given as goal

abbrev pub invariant-loop-slot : goal.invariant-loop-slot
invariant-loop-slot g l = keys_of l.keys.entries ≡ keys_of (take l.slot-index l.slots)

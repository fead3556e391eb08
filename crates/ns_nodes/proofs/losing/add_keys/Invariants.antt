use Rattle.std.proofs.Common.{◌≡◌, ◌++◌, drop}
use Rattle.std.specs.Prelude.{flat_map}
use Rattle.ns_nodes.specs.Losing.{key_at}
use Rattle.ns_nodes.proofs.losing.add_keys.Given as goal

abbrev pub invariant-loop-slot : goal.invariant-loop-slot
invariant-loop-slot l = l.keys ++ flat_map (key_at l.namespace) (drop l.slot-index l.slots)
    ≡ l.initial.keys ++ flat_map (key_at l.namespace) l.slots

use Rattle.std.proofs.Common.{◌≡◌, ◌++◌, drop}
use Rattle.std.specs.Prelude.{flat_map}
use Rattle.ns_nodes.specs.Losing.{slot_keys}
use Rattle.ns_nodes.proofs.lost.add_namespaces.Given as goal

abbrev pub invariant-loop-slot : goal.invariant-loop-slot
invariant-loop-slot l = l.keys ++ flat_map slot_keys (drop l.slot-index l.slots) ≡ l.initial.keys ++ flat_map slot_keys l.slots

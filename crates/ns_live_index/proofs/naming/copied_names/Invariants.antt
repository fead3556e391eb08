use Rattle.std.proofs.Common.{◌≡◌, ◌++◌, drop}
use Rattle.std.specs.Prelude.{flat_map}
use Rattle.ns_live_index.specs.Naming.{row_name}
use Rattle.ns_live_index.proofs.naming.copied_names.Given as goal

abbrev pub invariant-loop-slot : goal.invariant-loop-slot
invariant-loop-slot l = l.names ++ flat_map row_name (drop l.slot-index l.slots) ≡ flat_map row_name l.slots

use Rattle.ns_settlement.specs.Committed.{numbered_pools}
use Rattle.ns_settlement.specs.Owners.{owners}
use Rattle.ns_settlement.proofs.Numbered.{Unnumbered}
use Rattle.ns_tables.specs.World.{pool_of}
use Rattle.ns_settlement.proofs.commit.pools.put_classes.Given as goal

abbrev pub invariant-loop-name : goal.invariant-loop-name
invariant-loop-name l = Unnumbered l.table l.name-iterator.rest.items (numbered_pools l.fn.rooms (owners pool_of l.initial.table)) l.initial.table

use Rattle.std.proofs.Common.{drop}
use Rattle.ns_settlement.proofs.Reserved.{PlacesMade}
use Rattle.ns_settlement.proofs.commit.pools.reserve_classes.Given as goal

abbrev pub invariant-loop-i : goal.invariant-loop-i
invariant-loop-i l = PlacesMade l.table l.initial.table (drop l.i l.rooms) l.rooms

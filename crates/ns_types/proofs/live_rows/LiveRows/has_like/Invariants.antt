use Rattle.std.proofs.Common.{◌≡◌, map, take}
use Rattle.ns_types.specs.Working.Owners.{without_name}
use Rattle.ns_types.proofs.live_rows.LiveRows.has_like.Given as goal

abbrev pub invariant-loop-i : goal.invariant-loop-i
invariant-loop-i l = map without_name (take l.i l.self) ≡ map without_name (take l.i l.other)

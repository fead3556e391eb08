use Rattle.std.proofs.Common.{◌≡◌, take}
use Rattle.ns_types.proofs.live_rows.copied_rows.Given as goal

abbrev pub invariant-loop-row : goal.invariant-loop-row
invariant-loop-row l = l.copy.items ≡ take l.row-index l.rows

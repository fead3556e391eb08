use Rattle.std.proofs.Common.{◌≡◌, length, take}
use Rattle.ns_types.proofs.live_rows.same_names.Given as goal

abbrev pub invariant-loop-i : goal.invariant-loop-i
invariant-loop-i l = (take l.i l.fn.a ≡ take l.i l.fn.b) × (length l.fn.a ≡ length l.fn.b)

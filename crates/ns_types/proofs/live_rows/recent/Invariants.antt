use Rattle.std.proofs.Common.{◌-◌, ◌≤◌, length}
use Rattle.ns_types.proofs.live_rows.recent.Given as goal

abbrev pub invariant-loop-place : goal.invariant-loop-place
invariant-loop-place l = l.place ≤ length l.fn.names

abbrev pub decreases-loop-place : goal.decreases-loop-place
decreases-loop-place l = l.place - l.least

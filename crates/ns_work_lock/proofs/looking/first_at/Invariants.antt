use Rattle.std.proofs.Common.{◌≡◌, ℕ, ◌<◌, false}
use Rattle.ns_work_lock.specs.Looking.{is_busy_with}
use Rattle.ns_work_lock.proofs.looking.first_at.Given as goal

abbrev pub invariant-loop-worker : goal.invariant-loop-worker
invariant-loop-worker l = (k : ℕ) → k < l.worker → is_busy_with l.core.world k l.key ≡ false

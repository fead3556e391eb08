-- What is freed so far is what was left with the victims so far, and no shorter list of them makes room.
use Rattle.std.proofs.Common.{◌≡◌, ℕ, ◌<◌, take, false}
use Rattle.ns_types.specs.State.Resources.{plus, total}
use Rattle.ns_types.specs.Placing.Preemption.{makes_room}
use Rattle.ns_preempt.proofs.prefix.victims.Given as goal

abbrev pub invariant-loop-i : goal.invariant-loop-i
invariant-loop-i l = record {
  freed : l.freed ≡ plus l.candidate.left (total (λ a. a.size) (take l.i l.candidate.evictable));
  short : (m : ℕ) → m < l.i → makes_room l.size l.candidate (take m l.candidate.evictable) ≡ false;
}

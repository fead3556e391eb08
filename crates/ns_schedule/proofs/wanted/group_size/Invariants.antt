use Rattle.std.proofs.Common.{◌≡◌, ◌^◌, ◌-◌, min, sum_by, take}
use Rattle.ns_schedule.proofs.wanted.group_size.Given as goal

abbrev pub invariant-loop-t : goal.invariant-loop-t
invariant-loop-t l = record {
  cpu : l.cpu ≡ min (sum_by (λ x. x.resources.cpu) (take l.t-index l.group.tasks)) (2 ^ 64 - 1);
  memory : l.memory ≡ min (sum_by (λ x. x.resources.memory) (take l.t-index l.group.tasks)) (2 ^ 64 - 1);
}

use Rattle.std.proofs.Common.{◌≡◌, take}
use Rattle.ns_types.specs.State.Resources.{IsCounted}
use Rattle.ns_schedule.specs.Fits.{tasks_size}
use Rattle.ns_schedule.proofs.sums.checked_tasks.Given as goal

abbrev pub invariant-loop-t : goal.invariant-loop-t
invariant-loop-t l = record {
  is : l.sum ≡ tasks_size (take l.t-index l.tasks) l.disk;
  counted : IsCounted l.sum;
}

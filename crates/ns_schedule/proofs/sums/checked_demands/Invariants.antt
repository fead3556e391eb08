use Rattle.std.proofs.Common.{◌≡◌, drop}
use Rattle.ns_types.specs.Placing.Wanted.{demands_from}
use Rattle.ns_types.specs.State.Resources.{IsCounted, plus, total}
use Rattle.ns_schedule.proofs.sums.checked_demands.Given as goal

abbrev pub invariant-loop-group : goal.invariant-loop-group
invariant-loop-group l = record {
  is : plus l.sum (total (λ d. d.size) (demands_from l.group-index l.job l.own (drop l.group-index l.job.document.groups)))
      ≡ plus l.fn.used (total (λ d. d.size) (demands_from 0 l.job l.own l.job.document.groups));
  counted : IsCounted l.sum;
}

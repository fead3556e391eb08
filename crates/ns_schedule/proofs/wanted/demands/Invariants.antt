use Rattle.std.proofs.Common.{◌≡◌, ◌++◌, drop}
use Rattle.ns_types.specs.Placing.Wanted.{demands_from}
use Rattle.ns_schedule.proofs.wanted.demands.Given as goal

abbrev pub invariant-loop-i : goal.invariant-loop-i
invariant-loop-i l = l.demands.items ++ demands_from l.i l.job l.own (drop l.i l.job.document.groups)
    ≡ demands_from 0 l.job l.own l.job.document.groups

use Rattle.std.proofs.Common.{◌≡◌, ◌++◌, take, map}
use Rattle.std.specs.List.{flat_map}
use Rattle.ns_types.specs.Placing.Wanted.{outdated, surplus}
use Rattle.ns_schedule.proofs.wanted.replaced.Given as goal

abbrev pub invariant-loop-group : goal.invariant-loop-group
invariant-loop-group l = map (λ x. x.now) l.stops.items
    ≡ outdated l.job l.own ++ flat_map (surplus l.job l.own) (take l.group-index l.job.document.groups)

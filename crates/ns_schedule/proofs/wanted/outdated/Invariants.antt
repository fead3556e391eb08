use Rattle.std.proofs.Common.{◌≡◌, ◌&&◌, not, take, map}
use Rattle.std.specs.List.{filter}
use Rattle.ns_types.specs.Placing.Wanted.{is_current}
use Rattle.ns_types.specs.State.Rows.{is_live}
use Rattle.ns_schedule.proofs.wanted.outdated.Given as goal

abbrev pub invariant-loop-a : goal.invariant-loop-a
invariant-loop-a l = map (λ x. x.now) l.found.items ≡ filter (λ x. is_live x.row && not (is_current l.job x)) (take l.a-index l.own)

use Rattle.std.proofs.Common.{◌≡◌, ◌&&◌, take, map}
use Rattle.std.specs.List.{filter}
use Rattle.ns_types.specs.Placing.Wanted.{is_of}
use Rattle.ns_types.specs.State.Rows.{is_live}
use Rattle.ns_schedule.proofs.wanted.kept.Given as goal

abbrev pub invariant-loop-a : goal.invariant-loop-a
invariant-loop-a l = map (λ x. x.now) l.kept.items ≡ filter (λ x. is_live x.row && is_of l.job l.group x) (take l.a-index l.own)

use Rattle.std.proofs.Common.{◌≡◌, take, map}
use Rattle.std.specs.List.{filter}
use Rattle.ns_types.specs.State.Rows.{is_live}
use Rattle.ns_schedule.proofs.wanted.live_ones.Given as goal

abbrev pub invariant-loop-a : goal.invariant-loop-a
invariant-loop-a l = map (λ x. x.now) l.live.items ≡ filter (λ x. is_live x.row) (take l.a-index l.own)

use Rattle.std.proofs.Common.{◌≡◌, false, take}
use Rattle.std.specs.List.{filter}
use Rattle.std.specs.Option.{option_map_or}
use Rattle.ns_types.specs.State.Rows.{allocation_at, is_live}
use Rattle.ns_plan.proofs.stops.live_stops.Given as goal

abbrev pub invariant-loop-number : goal.invariant-loop-number
invariant-loop-number g l = l.live.items ≡ filter (λ n. option_map_or is_live (allocation_at (g.V.View.world l.view) (l.namespace, n)) false)
    (take l.number-index l.stops)

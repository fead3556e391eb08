use Rattle.std.proofs.Common.{◌≡◌, ◌++◌, drop}
use Rattle.std.specs.Prelude.{flat_map}
use Rattle.ns_live_index.specs.Index.{IsRight}
use Rattle.ns_nodes.specs.Listed.{LoadsFit, shown_at}
use Rattle.ns_types.specs.State.Rows.{World}
use Rattle.ns_nodes.proofs.listing.add_all_shown.Given as goal

abbrev pub invariant-loop-slot : goal.invariant-loop-slot
invariant-loop-slot l = (w : World) → IsRight w l.live → LoadsFit w l.pool →
    l.shown ++ flat_map (shown_at w l.pool) (drop l.slot-index l.slots) ≡ l.initial.shown ++ flat_map (shown_at w l.pool) l.slots

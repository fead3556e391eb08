use Rattle.std.proofs.Common.{◌≡◌, fold, drop}
use Rattle.ns_change.specs.Changed.{view}
use Rattle.ns_types.specs.Settling.Gone.{row_gone}
use Rattle.ns_nodes.specs.Losing.{lost_row}
use Rattle.ns_nodes.proofs.lost.lose_each.Given as goal

abbrev pub invariant-loop-key : goal.invariant-loop-key
invariant-loop-key l = fold (row_gone lost_row) (view l.tables l.change) (drop l.key-index l.keys)
    ≡ fold (row_gone lost_row) (view l.tables l.initial.change) l.keys

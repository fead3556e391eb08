use Rattle.std.proofs.Common.{◌≡◌, fold, drop}
use Rattle.ns_change.specs.Changed.{view}
use Rattle.ns_renewal.specs.Renewing.{HasNumbers, renewed}
use Rattle.ns_tables.specs.World.{world_of}
use Rattle.ns_renewal.proofs.renewing.renew_each.Given as goal

abbrev pub invariant-loop-key : goal.invariant-loop-key
invariant-loop-key l = (fold (renewed l.trigger (world_of l.tables)) (view l.tables l.change) (drop l.key-index l.keys)
    ≡ fold (renewed l.trigger (world_of l.tables)) (view l.tables l.initial.change) l.keys)
    × HasNumbers (view l.tables l.change) (drop l.key-index l.keys)

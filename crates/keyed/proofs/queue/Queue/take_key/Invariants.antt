use Rattle.std.proofs.Common.{◌≡◌, List, filter, length, not}
use Rattle.keyed.specs.Queue.{CanAddRows}
use Rattle.ns_types.specs.State.Names.{same_key}
use Rattle.keyed.proofs.queue.Queue.take_key.Given as goal

abbrev pub invariant-loop-place : goal.invariant-loop-place
invariant-loop-place g l =
    (filter (λ row. not (same_key (g.R.Keyed.key_of row) l.key)) l.self.items
    ≡ filter (λ row. not (same_key (g.R.Keyed.key_of row) l.key)) l.fn.self.items)
    × ((more : List g.row.R.Denot) → CanAddRows g.R.Keyed.key_of more l.fn.self → CanAddRows g.R.Keyed.key_of more l.self)

abbrev pub decreases-loop-place : goal.decreases-loop-place
decreases-loop-place g l = length l.self.items

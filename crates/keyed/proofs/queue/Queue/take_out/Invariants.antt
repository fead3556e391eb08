use Rattle.std.proofs.Common.{◌≡◌, List, drop, filter, not}
use Rattle.keyed.specs.Queue.{CanAddRows}
use Rattle.ns_types.specs.State.Names.{has_key}
use Rattle.keyed.proofs.queue.Queue.take_out.Given as goal

abbrev pub invariant-loop-key : goal.invariant-loop-key
invariant-loop-key g l =
    (filter (λ row. not (has_key (drop l.key-index l.keys) (g.R.Keyed.key_of row))) l.self.items
    ≡ filter (λ row. not (has_key l.keys (g.R.Keyed.key_of row))) l.fn.self.items)
    × ((more : List g.row.R.Denot) → CanAddRows g.R.Keyed.key_of more l.fn.self → CanAddRows g.R.Keyed.key_of more l.self)

use Rattle.std.proofs.Common.{◌≡◌, None, fold, drop}
use Rattle.std.specs.Option.{option_copied}
use Rattle.ns_queues.specs.Ready.{preferred}
use Rattle.ns_queues.proofs.levels.first.Given as goal

abbrev pub invariant-loop-slot : goal.invariant-loop-slot
invariant-loop-slot l = fold preferred (option_copied l.first) (drop l.slot-index l.slot-items) ≡ fold preferred None l.slot-items

use Rattle.std.proofs.Common.{◌≡◌, fold, drop}
use Rattle.ns_types.specs.Working.Queue.{queue}
use Rattle.ns_change.specs.Changed.{view}
use Rattle.ns_change.proofs.Waking.{unblock_one}
use Rattle.ns_change.proofs.queueing.wake.Given as goal

abbrev pub invariant-loop-key : goal.invariant-loop-key
invariant-loop-key l = fold unblock_one (view l.tables l.change) (drop l.key-index l.keys) ≡ fold unblock_one (view l.tables l.initial.change) l.keys

abbrev pub invariant-loop-key-2 : goal.invariant-loop-key-2
invariant-loop-key-2 l = fold queue (view l.tables l.change) (drop l.key-index l.keys) ≡ fold queue (view l.tables l.initial.change) l.keys

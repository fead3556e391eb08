use Rattle.std.proofs.Common.{◌≡◌, ◌++◌, drop}
use Rattle.ns_change.proofs.lists.push_all.Given as goal

abbrev pub invariant-loop-key : goal.invariant-loop-key
invariant-loop-key l = l.keys ++ drop l.key-index l.more ≡ l.initial.keys ++ l.more

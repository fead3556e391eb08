use Rattle.std.proofs.Common.{◌≡◌, ◌++◌, drop}
use Rattle.ns_change.specs.Changed.{without_keys}
use Rattle.ns_change.proofs.lists.push_others.Given as goal

abbrev pub invariant-loop-key : goal.invariant-loop-key
invariant-loop-key l = l.keys ++ without_keys l.taken (drop l.key-index l.more) ≡ l.initial.keys ++ without_keys l.taken l.more

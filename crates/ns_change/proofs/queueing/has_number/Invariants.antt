use Rattle.std.proofs.Common.{◌≡◌, drop}
use Rattle.ns_types.specs.State.Names.{has_key}
use Rattle.ns_change.proofs.queueing.has_number.Given as goal

abbrev pub invariant-loop-key : goal.invariant-loop-key
invariant-loop-key l = has_key (drop l.key-index l.keys) (l.namespace, l.number) ≡ has_key l.keys (l.namespace, l.number)
